-- What a reader must believe, in the order of document 01: each definition names its sentence.
pub mod Setters
pub mod Longest
pub mod Registers
pub mod Channels
pub mod Mailbox
pub mod Reception
pub mod Hearing
pub mod Delivery
pub mod Attempt
pub mod Service
pub mod State
pub mod Slots
pub mod Answers
pub mod Host
pub mod Run
