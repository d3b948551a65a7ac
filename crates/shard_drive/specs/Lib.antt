pub mod Drives
pub mod Words
pub mod Lasting
pub mod Trials
