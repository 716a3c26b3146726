pub mod Puts
pub mod Laws
