pub mod Responding
pub mod Answering
