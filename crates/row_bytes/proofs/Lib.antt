pub mod Fields
pub mod KeyBodies
pub mod Pieces
pub mod Patched
