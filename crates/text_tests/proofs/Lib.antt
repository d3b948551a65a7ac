pub mod Logs
pub mod TwoShards
