pub mod Refusing
pub mod QuotientFormLaws
pub mod LentLaws
-- Handed on: crates above name these through this crate.
pub use Rattle.model_multiplication.specs as model_multiplication
pub use Rattle.model_proposal.specs as model_proposal
