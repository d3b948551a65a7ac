pub mod Moves
pub mod Memory
pub mod Counted
