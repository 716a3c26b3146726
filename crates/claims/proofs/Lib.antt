pub mod RefusalNumbers
pub mod Places
pub mod Agree
pub mod Decoded
