pub mod EarlyPhases
