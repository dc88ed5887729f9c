pub mod Keys
pub mod KeyDegreeLaws
pub mod KeyExponentLaws
pub mod KeyShiftLaws
pub mod KeyIntegralLaws
pub mod WideKeyLaws
pub mod KeyHalvesLaws
pub mod SpreadLaws
