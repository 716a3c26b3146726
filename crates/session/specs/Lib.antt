pub mod Reading
pub mod Writing
pub mod Claims
pub mod Cases
