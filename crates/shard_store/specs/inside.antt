-- What only the private parts of a store cite.
pub mod Consistent
pub mod Evicted
pub mod Homecoming
