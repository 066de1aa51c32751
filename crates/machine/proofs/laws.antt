-- Laws of the definitions of specs/: of places, bits and tests, tables, cells, working copies and rounds.
pub mod Base
pub mod Places
pub mod Bits
pub mod Cells
pub mod Tables
pub mod Crowding
pub mod Copies
pub mod Splitting
pub mod Resolve
pub mod Serving
pub mod PlanParts
pub mod PlanBounds
pub mod PlanChecks
