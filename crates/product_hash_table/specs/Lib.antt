pub mod Table
pub mod EntryLaws
pub mod TableLaws
