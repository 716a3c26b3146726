pub mod Ordinary
pub mod Judged
