pub mod Ends
pub mod Lines
pub mod Serving
pub mod Taken
