pub mod CollectorContracts
pub mod FactorArrayLaws
