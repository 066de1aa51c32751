pub mod Sizes
pub mod UnitLaws
pub mod Plain
pub mod ReadBack
pub mod CsvLaws
pub mod Cases
