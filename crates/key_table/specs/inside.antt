-- What only the private parts cite.
pub mod Slots
pub mod Kept
pub mod Places
pub mod Mixed
pub mod Waiting
