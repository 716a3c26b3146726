pub mod ClosedRuns
pub mod Limits
pub mod After
pub mod Findings
