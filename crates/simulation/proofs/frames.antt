-- What a change of some words keeps of the meaning, how a step begins, and what is used again.
pub mod WordBits
pub mod Frames
pub mod Storing
pub mod BucketWords
pub mod Entering
pub mod OwnWorker
pub mod CellChange
pub mod Numbering
pub mod Spares
