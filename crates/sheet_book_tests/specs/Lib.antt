pub mod Unsound
pub mod WalkLaws
pub mod VerdictLaws
