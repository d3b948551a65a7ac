-- What only the private parts of the mode cite.
pub mod Open
pub mod Steps
