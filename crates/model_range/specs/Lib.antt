pub mod KeyRange
pub mod RangeSizeLaws
pub mod RangeLoopLaws
pub mod RangePassLaws
