-- What only the private parts of a region cite.
pub mod Consistent
pub mod Tables
