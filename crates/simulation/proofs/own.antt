-- The steps that change only the worker's own words.
pub mod Answering
pub mod OwnSteps
pub mod EndSteps
pub mod MarkSteps
