pub mod Written
pub mod Sent
