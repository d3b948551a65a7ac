-- Words that only the private functions cite.
pub mod Pages
pub mod Steps
