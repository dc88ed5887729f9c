pub mod Powers
pub mod PowersLaws
pub mod PowerPassLaws
pub mod PowerChainLaws
