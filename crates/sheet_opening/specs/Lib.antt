-- Definitions.
pub mod Opening
-- Laws of opening, and the theorems about stepping.
pub mod OpeningLaws
pub mod HandedOutLaws
