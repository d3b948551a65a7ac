pub mod Nodes
pub mod Links
pub mod Due
pub mod Standing
pub mod Turns
pub mod Lines
pub mod Together
pub mod inside
