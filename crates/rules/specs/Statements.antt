-- What is claimed of the definitions: closed runs, and claims with short proofs. The claims over every run are in crates/every_run.
pub mod Bits
pub mod Runs
pub mod Claims
