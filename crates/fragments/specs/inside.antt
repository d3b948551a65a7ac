-- What only the private parts of the store cite.
pub mod Consistent
pub mod Linking
pub mod Setting
pub mod Paths
