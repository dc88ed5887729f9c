pub mod Limits
pub mod LimitLaws
pub mod SpanPassLaws
pub mod LeftLaws
-- Handed on: crates above name these through this crate.
pub use Rattle.model_slices.specs as model_slices
