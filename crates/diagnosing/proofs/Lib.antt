pub mod Tests
pub mod Passing
