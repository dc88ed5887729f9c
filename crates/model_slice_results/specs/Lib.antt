pub mod Addends
pub mod DifferenceLaws
pub mod LeftProductLaws
-- Handed on: crates above name these through this crate.
pub use Rattle.model_addition.specs as model_addition
pub use Rattle.model_horner_product.specs.product_room
