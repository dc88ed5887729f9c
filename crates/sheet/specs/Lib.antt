pub mod Sheet
pub mod ReadRun
pub mod Stepping
pub mod SteppingLaws
pub mod Refuted
pub mod SheetLaws
pub mod BookRowEdges
