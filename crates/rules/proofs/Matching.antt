pub mod Lowest
pub mod Masks
