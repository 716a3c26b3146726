-- What is claimed of the rules over every run of events. What must be believed is in crates/rules.
pub mod Tally
pub mod Observer
pub mod Sending
pub mod Settled
pub mod Valid
pub mod OwnFrames
pub mod Interrupts
pub mod Receiving
pub mod Wires
pub mod Claims
