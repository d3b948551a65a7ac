-- What only the private parts of a cache cite.
pub mod Limits
pub mod Scanning
pub mod Told
