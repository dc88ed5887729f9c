pub mod SheetStoreLaws
pub mod WriteLaws
pub mod WriteAnswerLaws
