-- What words mean, kept by every kind of step, and on top the theorems: demand 2 step by step, and demand 3 for the calls.
pub mod buckets
pub mod frames
pub mod own
pub mod cells
pub mod swap
pub mod runs
pub mod lengths
pub mod OpeningMeans
pub mod CallMeans
pub mod StepMeans
pub mod RowsMean
pub mod Represents
pub mod Demand2
pub mod Demand3ForCalls
pub mod Demand3WithRuns
