-- What only the private parts of a dirty region cite.
pub mod Rings
pub mod PutRows
pub mod Indexed
pub mod Consistent
pub mod Lines
