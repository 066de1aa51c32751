pub mod Ascends
pub mod Dues
pub mod Signs
pub mod Laws
pub mod Cases
