pub mod RoundTrip
pub mod Exact
pub mod Rooms
