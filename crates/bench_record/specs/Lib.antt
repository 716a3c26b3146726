pub mod Record
pub mod Claims
