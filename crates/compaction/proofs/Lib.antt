pub mod Moves
pub mod Shut
pub mod Copies
pub mod Drains
pub mod Chosen
pub mod Full
pub mod Steps
pub mod Stays
