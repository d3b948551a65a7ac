pub mod Written
pub mod Paths
pub mod Linked
pub mod Neighbours
pub mod Begun
pub mod InMemory
pub mod Sentinels
