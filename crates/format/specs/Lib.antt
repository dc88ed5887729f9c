-- Definitions, in order of reading.
pub mod Bytes
pub mod HeldBook
pub mod Fields
pub mod Format
pub mod Lines
pub mod Samples
pub mod Edges
-- Lists of definitions that facts by computation open.
pub mod Computing
-- Laws: numbers in bytes, and what the tests of a held book promise.
pub mod BytesLaws
pub mod HeldBookLaws
-- The claim about a sheet, and its proof.
pub mod SheetClaim
pub mod SheetRowEdges
-- What loops that walk forward need.
pub mod ReadLoopLaws
pub mod WriteLoopLaws
pub mod LinesLaws
