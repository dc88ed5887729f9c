pub mod ProductCallLaws
pub mod StoredLaws
-- Handed on: crates above name these through this crate.
pub use Rattle.model_slice_calls.specs as model_slice_calls
