pub mod OneHelped
pub mod OwnRound
