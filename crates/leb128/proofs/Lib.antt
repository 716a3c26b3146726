pub mod GroupLaws
pub mod RoundTrip
pub mod Figure
