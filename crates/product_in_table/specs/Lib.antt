-- Handed on: crates above name these through this crate.
pub use Rattle.product_room.specs.product_hash_collect
pub use Rattle.product_room.specs.product_grid
pub use Rattle.product_room.specs as product_room
