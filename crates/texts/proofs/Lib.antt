pub mod Lengths
pub mod Small
pub mod Texts
pub mod Feeds
pub mod Parts
