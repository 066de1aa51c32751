-- The definitions that the contracts of src/ cite, and the bytes by name.
pub mod Ascii
pub mod Decimals
pub mod Signs
