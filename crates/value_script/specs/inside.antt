-- What only the private parts of the reader cite.
pub mod Found
