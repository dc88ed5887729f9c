pub mod Grid
pub mod Degrees
pub mod DigitLaws
pub mod GridLaws
pub mod GridPlaceLaws
pub mod DegreeLaws
pub mod GridDigitLaws
