pub mod IndexText
pub mod Examples
pub mod Stores
pub mod inside
