pub mod Kept
pub mod Replied
