pub mod Leb128
pub mod Claims
pub mod Cases
