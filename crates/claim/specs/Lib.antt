-- Definitions, in order of reading.
pub mod Outcome
pub mod Claim
pub mod Computing
pub mod StepKindLaws
