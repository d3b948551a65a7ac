pub mod Exchange
pub mod Due
pub mod Rest
pub mod Work
pub mod Sends
pub mod Releases
