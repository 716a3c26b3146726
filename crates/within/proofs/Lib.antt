pub mod Refusals
pub mod Access
