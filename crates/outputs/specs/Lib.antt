-- The definitions that the contracts of src/ cite.
-- They rest on the table's listing and on the replies.
pub mod Outputs
pub mod Room
