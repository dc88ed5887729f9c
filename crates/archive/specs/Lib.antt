-- Definitions, in order of reading.
pub mod Ranks
pub mod Archive
-- Facts by computation.
pub mod ArchiveEdges
-- Laws.
pub mod RankLaws
pub mod RankSums
pub mod RankSumLaws
pub mod WidenedLaws
