pub mod WordsLimit
pub mod Regions
