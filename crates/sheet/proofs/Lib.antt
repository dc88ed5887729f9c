pub mod RefutedLaws
pub mod RenamedLaws
