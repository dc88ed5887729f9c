pub mod CurveLoopLaws
pub mod CurveAnswerLaws
