pub mod SoundPassLaws
pub mod SliceSoundLaws
