-- What closed runs show, beside the runs of crates/rules.
pub mod Seen
pub mod Claims
