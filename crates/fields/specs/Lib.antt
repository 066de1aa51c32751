pub mod Fields
pub mod Regions
