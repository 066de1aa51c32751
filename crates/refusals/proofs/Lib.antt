-- The laws of checks in their order; on top demand 1, for the library's calls and for the C functions.
pub mod Checking
pub mod Demand1
pub mod Demand1ForC
pub mod Demand1OnRebates
pub mod Demand1OnExport
pub mod Demand1OnLogs
