pub mod HandedBooks
pub mod HandedBooksLaws
