pub mod Proposal
pub mod FormLaws
pub mod SliceFormLaws
