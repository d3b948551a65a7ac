pub mod JournalState
pub mod Recorded
pub mod Replies
pub mod Runs
pub mod inside
