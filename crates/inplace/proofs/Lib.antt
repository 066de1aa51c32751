pub mod ArrayChanges
pub mod Rounds
pub mod OwnUpdate
