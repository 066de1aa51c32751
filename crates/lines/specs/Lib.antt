-- The definitions that the contracts of src/ cite, and what a whole input is met with.
-- They rest on the types that src/ declares, on crate commands and on the machine.
pub mod Grammar
pub mod Reading
pub mod Session
