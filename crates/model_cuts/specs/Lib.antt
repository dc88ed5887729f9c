-- Laws.
pub mod MinMaxLaws
pub mod CoveredLaws
pub mod CutCallLaws
