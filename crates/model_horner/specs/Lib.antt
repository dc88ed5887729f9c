pub mod Held
pub mod HeldPassLaws
-- Handed on: crates above name these through this crate.
pub use Rattle.model_scaling.specs as model_scaling
