pub mod DirtyText
pub mod Examples
pub mod Stores
pub mod FlushedPuts
pub mod inside
