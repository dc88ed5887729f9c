pub mod Division
pub mod Fixed
pub mod Computing
-- Handed on: crates above name these through this crate.
pub use Rattle.algebra.specs as algebra
