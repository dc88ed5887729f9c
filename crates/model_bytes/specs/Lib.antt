pub mod WordsAtLaws
pub mod WordBitsLaws
