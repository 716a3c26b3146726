pub mod Bits
pub mod ClosedRuns
pub mod Resets
pub mod Matching
pub mod Logic
pub mod Samples
pub mod Mailbox
pub mod Refusals
