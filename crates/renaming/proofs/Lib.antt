pub mod RenamedMonomialLaws
pub mod SymmetryLaws
pub mod RenamedTermsLaws
pub mod RenamedModelLaws
-- What a renamed model stands for.
pub mod RenamedValueLaws
-- Operations on renamed models.
pub mod RenamedOperationLaws
pub mod RenamedProductLaws
pub mod RenamedSubstituteLaws
pub mod RenamedQuotientLaws
pub mod RenamedAntiderivativeLaws
-- Renamed books: they pass the tests, and their run.
pub mod RenamedTestLaws
pub mod RenamedRunLaws
pub mod RenamedShareLaws
-- The books of sheets, and sheets.
pub mod RenamedHeldLaws
pub mod RenamedSheetLaws
-- There and back.
pub mod InverseLaws
pub mod HeldInverseLaws
-- The theorems, and facts beside them.
pub mod RenamingProof
pub mod RenamingFacts
