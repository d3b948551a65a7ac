pub mod Cuts
pub mod LinesRead
pub mod Placed
