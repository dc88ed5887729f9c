pub mod Rising
pub mod RisingLaws
pub mod SameSumsLaws
pub mod OneTermLaws
