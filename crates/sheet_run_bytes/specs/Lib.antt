-- Definitions: what a sheet's run leads to.
pub mod RunBytes
-- Laws: by its tests.
pub mod RunBytesLaws
-- Handed on: crates above name these through this crate.
pub use Rattle.sheet_loading.specs.sheet_run_laws
pub use Rattle.sheet_running.specs as sheet_running
