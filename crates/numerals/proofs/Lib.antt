pub mod Parts
pub mod NumeralLaws
pub mod ReadBack
pub mod CutLaws
