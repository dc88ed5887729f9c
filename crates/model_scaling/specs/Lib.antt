pub mod Scaling
pub mod ScalingLaws
pub mod ScaledPassLaws
pub mod ScaledAnswerLaws
