pub mod Ways
pub mod Diagnosed
pub mod Short
