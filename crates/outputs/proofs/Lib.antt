-- Laws that belong to no one function.
-- They rest on the definitions of specs/.
pub mod Outputs
pub mod Within
pub mod Rooms
