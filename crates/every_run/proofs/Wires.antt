pub mod Counted
pub mod Found
pub mod Nominal
pub mod EveryRun
