pub mod DivisionLaws
pub mod NearestLaws
pub mod SameFractionLaws
pub mod FixedLaws
