pub mod RoundedStruct
pub mod MachineLaws
