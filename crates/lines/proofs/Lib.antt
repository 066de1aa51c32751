-- Laws that belong to no one function, and the theorems on whole lines and whole sessions.
-- They rest on the definitions of specs/.
pub mod Splitting
pub mod Longest
pub mod Streaming
pub mod Session
