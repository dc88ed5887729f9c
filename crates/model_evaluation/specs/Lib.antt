pub mod Evaluate
pub mod EvaluateCallLaws
pub mod ConstantLaws
pub mod PutCoordinateLaws
pub mod SliceIterationLaws
pub mod EvaluationLaws
pub mod SliceEvaluationLaws
