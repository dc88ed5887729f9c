pub mod ExactBitsLaws
pub mod WithinTheirsLaws
pub mod WithinTheirsFacts
