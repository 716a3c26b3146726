pub mod Bytes
pub mod Limits
pub mod Reception
pub mod Service
pub mod Reach
pub mod Counting
