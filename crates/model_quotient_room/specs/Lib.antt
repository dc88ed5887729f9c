pub mod QuotientTableLaws
-- Handed on: crates above name these through this crate.
pub use Rattle.model_quotient.specs.model_multiplication
pub use Rattle.model_quotient.specs.model_proposal
pub use Rattle.model_quotient.specs as model_quotient
