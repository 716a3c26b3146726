pub mod Steady
pub mod EveryRun
