pub mod WideningLaws
-- Handed on: crates above name these through this crate.
pub use Rattle.model_horner_iteration.specs as model_horner_iteration
