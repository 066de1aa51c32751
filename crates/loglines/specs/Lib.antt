-- What the lines of a log mean, what is printed, and what a whole input is answered with; what is held of an input that
-- comes in parts, and the theorem on it. They rest on the structs that src/ declares, on crate logs and on crate lines.
pub mod Fields
pub mod Lines
pub mod Texts
pub mod Inputs
pub mod Holding
pub mod Feeding
