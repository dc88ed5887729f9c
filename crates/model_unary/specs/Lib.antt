pub mod NegateLaws
pub mod SweepLaws
pub mod SweepShareLaws
-- Handed on: crates above name these through this crate.
pub use Rattle.model_places.specs as model_places
