-- What a command is of its letter and fields. It rests on the enum that src/ declares, on numerals and on the machine's
-- script.
pub mod Commands
