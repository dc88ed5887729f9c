pub mod Text
pub mod TextLaws
pub mod RefusalPlaceLaws
pub mod PrintedRunLaws
pub mod LengthLaws
pub mod PrintedLaws
-- Handed on: crates above name these through this crate.
pub use Rattle.sheet.specs as sheet
