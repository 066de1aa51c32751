pub mod Bands
pub mod Rebate
pub mod Laws
