-- What two shards have of each other, and what one has of all, once all are done.
pub mod Lists
pub mod Requests
pub mod Replies
pub mod Logs
pub mod Lent
