-- The laws of whole sessions.
-- They rest on the definitions of specs/, on the meaning of words and on the driver's texts.
pub mod Lines
pub mod Steps
pub mod Commands
pub mod ProgramIsSession
pub mod NeverNarrow
pub mod ProgramInBlocks
pub mod Same
