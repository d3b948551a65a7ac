pub mod Own
pub mod Peers
pub mod Receives
pub mod Opening
pub mod inside
