pub mod CurveRangeLaws
