pub mod Lesser
pub mod Runs
pub mod Totals
