pub mod Certificate
pub mod CertificateLaws
