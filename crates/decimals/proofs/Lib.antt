-- Laws that belong to no one function.
pub mod DecimalLaws
pub mod Overlays
pub mod Signs
