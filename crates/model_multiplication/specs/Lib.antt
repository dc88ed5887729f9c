pub mod Factors
pub mod FactorRoomLaws
pub mod OwnArraysLaws
