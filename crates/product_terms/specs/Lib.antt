-- Handed on: crates above name these through this crate.
pub use Rattle.product_own_room.specs.product_hash_collect
pub use Rattle.product_own_room.specs.product_room
