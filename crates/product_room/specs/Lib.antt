pub mod ProductTerms
pub mod ProductTermsLaws
-- Handed on: crates above name these through this crate.
pub use Rattle.product_hash_collect.specs as product_hash_collect
pub use Rattle.product_grid.specs as product_grid
