pub mod Holding
pub mod Groups
pub mod Guarding
pub mod Telling
pub mod Homecoming
pub mod Pressure
pub mod Lookups
