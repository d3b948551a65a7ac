pub mod CommandLists
pub mod Flushing
pub mod InOrder
