pub mod Finishing
pub mod Opening
pub mod Parting
