-- Definitions, in order of reading, and what is promised of them.
pub mod Reordering
pub mod RenamingClaim
pub mod Edges
-- A list of definitions that facts by computation open.
pub mod Computing
-- Laws: sums under a reordering, monomials by their exponents, renamed monomials.
pub mod Additions
pub mod TotalLaws
pub mod ExponentLaws
-- Renamed terms and models.
pub mod TermSumLaws
pub mod RenamedAnswerLaws
