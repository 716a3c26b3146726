pub mod Decoded
pub mod Agree
pub mod Claims
