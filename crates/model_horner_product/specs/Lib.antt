pub mod HornerProduct
pub mod SliceProductLaws
-- Handed on: crates above name these through this crate.
pub use Rattle.product_slices.specs.product_room
