pub mod Rounding
pub mod IntegralSizeLaws
pub mod IntegralParts
pub mod IntegralPartsLaws
pub mod IntegralTerms
pub mod IntegralPassLaws
