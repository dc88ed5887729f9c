pub mod LastResult
pub mod Run
pub mod RunLaws
pub mod RunIterationLaws
pub mod MemoryLaws
-- Handed on: crates above name these through this crate.
pub use Rattle.sheet_steps.specs.model
pub use Rattle.sheet_steps.specs as sheet_steps
