-- What the definitions on a bucket's state mean: to its table, and to the machine's bucket.
pub mod Items
pub mod Ties
