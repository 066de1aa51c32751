pub mod Rebates
