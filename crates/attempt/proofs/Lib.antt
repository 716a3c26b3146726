pub mod Room
pub mod Level
