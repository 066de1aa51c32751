-- Laws that belong to no one function.
-- They rest on the definitions of specs/.
pub mod Bytes
pub mod Bounds
