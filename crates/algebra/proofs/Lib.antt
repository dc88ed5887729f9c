pub mod FractionLaws
pub mod Rational
pub mod RationalRing
pub mod RationalOrder
pub mod RationalLaws
pub mod RationalField
