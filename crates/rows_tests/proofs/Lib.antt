pub mod Found
pub mod Groups
mod Live
mod Named
pub mod Placed
