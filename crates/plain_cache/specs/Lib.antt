pub mod Cache
pub mod Kept
pub mod inside
