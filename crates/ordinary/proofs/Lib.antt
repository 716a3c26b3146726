pub mod Samples
pub mod Frames
pub mod Moving
pub mod Tests
pub mod Named
pub mod OwnFrame
pub mod Effects
