pub mod BucketSwap
