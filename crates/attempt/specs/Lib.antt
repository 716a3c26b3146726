pub mod Following
pub mod Level
