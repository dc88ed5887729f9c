-- The struct of a trailer.
pub mod Trailer
