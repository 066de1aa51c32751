-- The moments: which operations take effect in a step, and that the plain table then gives what the machine gives.
pub mod Explain
pub mod Statuses
pub mod BucketCopies
pub mod LookupEffects
pub mod ExplainSteps
pub mod ExplainSwap
pub mod ExplainRedirect
pub mod StepExplained
