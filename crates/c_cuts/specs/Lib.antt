pub mod CutCalls
pub mod CutCallsLaws
