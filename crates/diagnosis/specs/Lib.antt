-- Definitions: what a reader must believe. Claims: what closed runs of them show; the claims over every run are in crates/every_run.
pub mod Control
pub mod Rules
pub mod Claims
