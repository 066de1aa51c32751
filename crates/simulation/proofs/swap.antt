-- The directory swap that succeeds, in this order: what its stores do to the words (Halves, Directing), one half made
-- (Halving), a split in place (InPlace), a bucket's body replaced (LeafReplaced), the updates due at a marked bucket
-- (DueUpdates) and taken (TakenUpdates), all marked buckets resolved (Resolving), the words then mean the machine after its
-- swap (DirectorySwapped), and the whole step (Redirects).
pub mod Halves
pub mod Directing
pub mod Halving
pub mod InPlace
pub mod LeafReplaced
pub mod DueUpdates
pub mod TakenUpdates
pub mod Resolving
pub mod DirectorySwapped
pub mod Redirects
