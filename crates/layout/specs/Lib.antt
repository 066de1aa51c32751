pub mod Shape
pub mod Addresses
