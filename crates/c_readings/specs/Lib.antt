pub mod HandedReadings
pub mod HandedReadingsLaws
