pub mod Closing
pub mod Opening
pub mod Remaining
pub mod Running
pub mod inside
