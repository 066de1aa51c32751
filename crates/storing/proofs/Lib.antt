pub mod States
pub mod Trips
