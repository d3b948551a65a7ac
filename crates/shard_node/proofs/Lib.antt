pub mod Lent
pub mod OwnParts
pub mod Requests
pub mod Replies
pub mod Standing
pub mod Turning
pub mod Together
