pub mod Polynomial
pub mod Box
pub mod Integral
pub mod Antiderivative
pub mod AntiderivativeLaws
