pub mod EarlierLaws
pub mod ArchiveLaws
pub mod StoredAgainLaws
