pub mod TermArrays
pub mod TermArrayLaws
pub mod AccumulatedLaws
pub mod Insertion
pub mod SortLaws
pub mod InsertLaws
pub mod Wide
pub mod Kept
pub mod WideLaws
pub mod KeptTermLaws
pub mod KeptOrderLaws
pub mod GatherLaws
pub mod ProductSums
pub mod ProductsLaws
pub mod AccumulatedAllLaws
pub mod ChangeLaws
pub mod OccurrenceLaws
pub mod ProductAnswerLaws
-- Handed on: crates above name these through this crate.
pub use Rattle.calculus_laws.specs as calculus_laws
