-- Definitions: what the walks over models and steps answer.
pub mod Walk
-- Laws: the loops one by one.
pub mod TermWalkLaws
pub mod ModelWalkLaws
pub mod StepWalkLaws
