pub mod DoubleParts
pub mod DoublePartsLaws
pub mod DoublesStruct
pub mod ScaledPartsLaws
pub mod OneMoreTermLaws
pub mod ThreeTermLaws
pub mod HugeDoubleLaws
pub mod DoublesCallLaws
