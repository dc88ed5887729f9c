pub mod Admission
pub mod AdmissionLaws
pub mod CoordinateLaws
pub mod CallStructLaws
