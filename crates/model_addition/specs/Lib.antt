pub mod Merge
pub mod Addition
pub mod SumTermsLaws
pub mod MergeLaws
pub mod AddedLaws
pub mod MergePassLaws
