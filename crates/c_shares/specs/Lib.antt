pub mod HandedShares
pub mod HandedSharesLaws
