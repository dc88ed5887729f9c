pub mod GridTerms
pub mod GridTermsLaws
-- Handed on: crates above name these through this crate.
pub use Rattle.product_rising.specs as product_rising
