pub mod Balances
pub mod Replay
