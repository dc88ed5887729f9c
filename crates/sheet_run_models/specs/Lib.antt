-- Handed on: crates above name these through this crate.
pub use Rattle.sheet_run_laws.specs as sheet_run_laws
