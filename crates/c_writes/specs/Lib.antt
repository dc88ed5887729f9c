pub mod WriteCalls
pub mod WriteCallsLaws
