pub mod PolynomialLaws
pub mod BoxLaws
pub mod VariableAntiderivativeLaws
pub mod IntegralLaws
