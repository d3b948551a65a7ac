pub mod Causes
pub mod Line
pub mod Order
pub mod Reading
pub mod Script
pub mod Commands
pub mod inside
