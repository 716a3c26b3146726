pub mod Laws
pub mod FirstLines
pub mod BadLines
