pub mod Places
pub mod Row
pub mod Bytes
