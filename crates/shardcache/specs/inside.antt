pub mod Ending
pub mod Framed
