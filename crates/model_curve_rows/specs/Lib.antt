pub mod SmallRows
pub mod SmallRowsLaws
