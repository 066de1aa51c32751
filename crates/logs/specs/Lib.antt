pub mod Log
pub mod Orders
pub mod Comparing
pub mod Same
pub mod Search
pub mod Judging
