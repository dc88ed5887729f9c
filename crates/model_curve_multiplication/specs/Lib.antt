pub mod CollectLaws
pub mod RoundLaws
