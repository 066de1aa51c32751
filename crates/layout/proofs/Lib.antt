pub mod Positions
pub mod Checks
