pub mod SoundSlices
pub mod TermCallLaws
