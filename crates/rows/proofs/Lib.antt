pub mod RowLaws
pub mod AllRows
pub mod SmallRows
