-- What only the private parts of the log cite.
pub mod Made
