pub mod Substituting
pub mod HornerLaws
pub mod IterationRoomLaws
pub mod SliceSubstitutionLaws
-- Handed on: crates above name these through this crate.
pub use Rattle.model_widening.specs.model_horner_iteration
