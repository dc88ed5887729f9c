pub mod SheetCalls
pub mod RemainderLaws
-- Handed on: crates above name these through this crate.
pub use Rattle.sheet.specs as sheet
