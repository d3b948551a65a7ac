pub mod Counts
pub mod Extents
pub mod Kinds
pub mod Sizes
