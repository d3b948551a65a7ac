pub mod Examples
pub mod Frame
pub mod Lines
pub mod Spelled
pub mod Verdict
pub mod inside
