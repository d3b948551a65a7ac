pub mod Orders
pub mod Moved
pub mod Unique
