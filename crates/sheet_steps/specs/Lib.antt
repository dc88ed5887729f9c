pub mod Steps
-- Handed on: crates above name these through this crate.
pub use Rattle.model.specs as model
