pub mod Orders
pub mod Options
pub mod Powers
pub mod Counts
pub mod Maps
pub mod Sums
