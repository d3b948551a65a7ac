pub mod Held
pub mod Lives
mod Rows
