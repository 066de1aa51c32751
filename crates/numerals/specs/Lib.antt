pub mod Numerals
pub mod Cut
