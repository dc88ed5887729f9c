pub mod GridContracts
pub mod GridWalkLaws
pub mod GridSumsLaws
pub mod GridReadyLaws
-- Handed on: crates above name these through this crate.
pub use Rattle.product_grid_scan.specs.product_rising
