pub mod ArchiveCalls
pub mod ArchiveCallsLaws
