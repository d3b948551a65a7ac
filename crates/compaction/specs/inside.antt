pub mod Chosen
pub mod Drained
