-- The steps that change one slot or one bucket.
pub mod CellSteps
