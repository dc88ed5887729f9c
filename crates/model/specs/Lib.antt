pub mod CallLaws
pub mod OperationContracts
pub mod OperationLaws
