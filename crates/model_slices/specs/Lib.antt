pub mod HandedModels
pub mod HandedModelsLaws
pub mod HeldModels
pub mod HeldModelsLaws
-- Handed on: crates above name these through this crate.
pub use Rattle.model_types.specs as model_types
