-- Definitions: what a reader must believe. Statements: what is claimed of them.
pub mod Definitions
pub mod Statements
