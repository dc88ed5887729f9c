pub mod HandedCurves
pub mod HandedCurvesLaws
