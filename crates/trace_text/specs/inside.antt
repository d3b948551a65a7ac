pub mod Counted
pub mod Found
pub mod Lines
pub mod Plain
pub mod Routes
pub mod ShardCounts
pub mod Version
