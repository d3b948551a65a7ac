pub mod CommandLists
pub mod Keys
