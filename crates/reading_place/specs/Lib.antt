pub mod Place
pub mod Items
