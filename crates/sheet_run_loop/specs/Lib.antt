-- Handed on: crates above name these through this crate.
pub use Rattle.sheet_run_steps.specs.model
pub use Rattle.sheet_run_room.specs.sheet_run_laws
