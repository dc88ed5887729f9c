pub mod StepCalls
pub mod SheetCallsLaws
-- Handed on: crates above name these through this crate.
pub use Rattle.text.specs as text
