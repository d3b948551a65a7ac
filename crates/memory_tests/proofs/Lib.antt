pub mod Removed
pub mod Taken
