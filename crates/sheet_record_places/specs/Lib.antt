-- Definitions.
pub mod Places
-- Their laws.
pub mod PlacesLaws
