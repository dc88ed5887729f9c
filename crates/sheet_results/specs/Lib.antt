pub mod Results
pub mod ResultsLaws
pub mod RowsLaws
