-- What only the private parts cite.
pub mod Kept
