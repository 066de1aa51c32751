pub mod Checks
pub mod Demand1
pub mod Demand1OnRebates
pub mod Demand1OnExport
pub mod Demand1OnLogs
