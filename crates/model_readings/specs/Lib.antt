pub mod ReadingStruct
pub mod RowIterations
pub mod RowPassLaws
pub mod FindingLaws
pub mod JudgedLaws
pub mod RowIterationLaws
