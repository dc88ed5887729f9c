pub mod StoredAnswers
pub mod StoredAnswersLaws
