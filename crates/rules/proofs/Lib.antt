pub mod Laws
pub mod Bits
