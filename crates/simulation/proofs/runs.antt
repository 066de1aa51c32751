-- A run is its steps.
pub mod RunIterates
pub mod RunSteps
