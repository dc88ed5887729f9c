pub mod Antiderivatives
pub mod PassLaws
pub mod GrowthShareLaws
