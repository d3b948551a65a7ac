pub mod Buddies
pub mod Layout
pub mod inside
