pub mod Readings
pub mod Edges
