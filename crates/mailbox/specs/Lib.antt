pub mod Hands
pub mod Messages
