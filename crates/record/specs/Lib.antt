pub mod Loads
pub mod Bucket
