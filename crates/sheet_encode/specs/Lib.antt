pub mod Fitting
pub mod RecordLoopLaws
pub mod StoreLaws
pub mod FittingLaws
pub mod SectionFittingLaws
pub mod TrailerStoreLaws
