pub mod ReadingsLaws
pub mod ReadingsFacts
