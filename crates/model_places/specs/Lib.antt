pub mod SlicePlaces
pub mod SlicePlacesLaws
pub mod LeftModels
pub mod LeftModelsLaws
