-- Replies: which fit, how they are taken and how they are sent.
pub mod Sends
pub mod Logged
pub mod TakesReplies
pub mod TakesPackets
pub mod SendsOne
