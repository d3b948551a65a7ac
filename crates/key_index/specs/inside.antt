pub mod Sizes
pub mod Blocks
pub mod Stock
pub mod Dense
pub mod Shared
pub mod Kept
pub mod Sought
