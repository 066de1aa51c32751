-- Lists of entries: one entry, one worker along a list, and two systems that reply alike.
pub mod Advance
pub mod WorkerHistory
pub mod StepBounds
pub mod Refusals
pub mod Transfer
