pub mod Buckets
pub mod Meaning
pub mod LentWords
pub mod Runs
pub mod Demand2
pub mod Demand3ForCalls
