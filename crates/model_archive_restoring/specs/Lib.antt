pub mod Restoring
pub mod Runs
pub mod RestoringLaws
pub mod RunsLaws
pub mod FilledArraysLaws
pub mod MergingLaws
pub mod RestoreLoopLaws
pub mod LastTestLaws
