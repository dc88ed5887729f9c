-- Definitions.
pub mod Cuts
-- What is claimed of them.
pub mod CutClaim
-- Rows of edge cases, computed: a wrong definition is refused here first.
pub mod Edges
-- Laws.
pub mod EndsLaws
