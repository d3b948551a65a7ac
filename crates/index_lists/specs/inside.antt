-- Words that only the private functions cite.
pub mod Entries
pub mod Links
