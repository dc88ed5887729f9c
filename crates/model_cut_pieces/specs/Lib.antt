-- Definitions.
pub mod Cutting
-- Laws.
pub mod PieceStructLaws
pub mod PieceRangeLaws
