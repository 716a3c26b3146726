pub mod Line
pub mod Raised
