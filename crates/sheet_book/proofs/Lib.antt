pub mod UndoLaws
pub mod ZeroLaws
