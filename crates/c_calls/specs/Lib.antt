pub mod CallCodes
pub mod CallCodesLaws
pub mod CallKinds
pub mod CallKindsLaws
