-- Words that only the private functions cite.
pub mod Tables
pub mod Marks
