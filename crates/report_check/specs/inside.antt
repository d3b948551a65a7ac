-- What only the private parts cite.
pub mod Compared
pub mod Spells
pub mod Walks
