pub mod RebateRows
pub mod AsListed
