pub mod Bits
pub mod LineCode
pub mod Check
pub mod Frame
pub mod Layout
pub mod Claims
