-- Laws: the tests by what the walks answer.
pub mod ReadLaws
