pub mod Substitute
pub mod SubstitutionRoomLaws
pub mod OwnSlicesLaws
