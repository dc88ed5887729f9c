pub mod HandedQuotients
pub mod HandedQuotientsLaws
