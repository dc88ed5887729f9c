-- Definitions: what the walks that keep the records answer.
pub mod KeptRecords
-- Laws: what they keep, iteration by iteration.
pub mod KeptLaws
-- Handed on: crates above name these through this crate.
pub use Rattle.sheet_walk.specs as sheet_walk
