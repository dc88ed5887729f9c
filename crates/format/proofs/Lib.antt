pub mod KeyBytesLaws
pub mod StepFieldLaws
pub mod SmallLaws
-- What is written is read again, what is read is written again; both are bytes.
pub mod ReadBackLaws
pub mod WriteBackLaws
pub mod WrittenBytesLaws
-- The records handed out, and where they stand.
pub mod RecordLaws
pub mod PlaceLaws
pub mod SheetClaimProof
pub mod SheetExactLaws
pub mod SheetRowLaws
pub mod SheetShareLaws
pub mod RangeSheetFacts
pub mod SheetClaimFacts
