pub mod Lanes
pub mod Links
pub mod Mesh
pub mod Number
pub mod Reply
pub mod Request
pub mod inside
