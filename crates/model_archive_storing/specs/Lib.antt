pub mod Storing
pub mod StoringLaws
pub mod PutDegreeLaws
