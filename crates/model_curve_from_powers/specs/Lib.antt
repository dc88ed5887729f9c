pub mod FillLaws
pub mod RowLoopLaws
