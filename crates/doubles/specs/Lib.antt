pub mod Doubles
pub mod DoubleBits
pub mod Computing
pub mod Edges
pub mod ExactFractionLaws
