-- Definitions: what is loaded of a sheet.
pub mod Loading
-- Laws: the loop over models, and the tests by what the walks answer.
pub mod LoadLaws
pub mod LoadedRecordLaws
-- Handed on: crates above name these through this crate.
pub use Rattle.sheet_tests.specs as sheet_tests
pub use Rattle.sheet_run_laws.specs as sheet_run_laws
