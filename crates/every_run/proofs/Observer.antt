pub mod Replies
pub mod Flags
pub mod Agreed
pub mod Settled
pub mod EveryRun
