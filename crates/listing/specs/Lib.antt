pub mod Listing
pub mod Laid
