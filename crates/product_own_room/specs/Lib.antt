-- Handed on: crates above name these through this crate.
pub use Rattle.product_in_table.specs.product_hash_collect
pub use Rattle.product_in_table.specs.product_room
