pub mod PartLaws
pub mod EveryLaws
