pub mod Csv
pub mod Reading
pub mod Units
pub mod Laws
