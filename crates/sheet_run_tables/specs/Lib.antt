-- Handed on: crates above name these through this crate.
pub use Rattle.sheet_run_loop.specs.model
pub use Rattle.sheet_run_loop.specs.sheet_run_laws
