pub mod Filling
pub mod FillingLaws
