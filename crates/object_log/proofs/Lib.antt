pub mod Appending
pub mod Killing
pub mod Reading
pub mod Writing
pub mod Contents
