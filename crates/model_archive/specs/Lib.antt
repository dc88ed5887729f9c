pub mod StoredStruct
pub mod StoringTestsLaws
pub mod RestoringTestsLaws
