pub mod Body
pub mod Head
pub mod RequestHead
pub mod Requests
pub mod Rings
pub mod Meeting
