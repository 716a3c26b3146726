pub mod ClosedRuns
