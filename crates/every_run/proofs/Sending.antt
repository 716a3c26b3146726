pub mod Frames
pub mod Beside
pub mod Join
pub mod Follow
pub mod Ends
pub mod Bound
pub mod Demand3
