-- What only the private parts of a set cite.
pub mod Words
