pub mod Answer
pub mod Decode
pub mod Encode
pub mod Claims
