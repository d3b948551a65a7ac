pub mod States
pub mod Puts
pub mod Scans
pub mod Lendings
pub mod Lends
pub mod inside
