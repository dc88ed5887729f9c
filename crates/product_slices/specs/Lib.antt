pub mod HandedTerms
pub mod KeptPlaces
pub mod HandedTermsLaws
pub mod KeptPlacesLaws
pub mod SliceFactorLaws
-- Handed on: crates above name these through this crate.
pub use Rattle.product_terms.specs.product_room
