-- What only the private parts of a row cache cite.
pub mod Tables
pub mod Chained
pub mod Moved
pub mod Patches
pub mod Scanned
pub mod Sought
pub mod Consistent
