-- What only the private parts of a range cite.
pub mod Covered
pub mod Filled
pub mod Ownership
