-- Definitions.
pub mod Records
