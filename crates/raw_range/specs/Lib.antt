pub mod Memory
pub mod Writes
pub mod inside
