pub mod KeyBodies
pub mod ReplyLists
