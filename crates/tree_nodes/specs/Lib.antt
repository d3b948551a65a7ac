pub mod Nodes
pub mod Order
pub mod inside
