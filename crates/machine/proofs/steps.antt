-- Every kind of step keeps the invariant: the flip, the steps that change only their worker's task, and the two swaps.
pub mod Flip
pub mod BucketSteps
pub mod DirectorySteps
pub mod SwapBucket
pub mod SwapDirectory
