pub mod LineParts
pub mod LineLaws
