-- What stands behind the contracts: the table of words and slots, what each seat at it knows, and the rule.
pub mod Words
pub mod Views
pub mod Changes
pub mod Places
pub mod History
pub mod Rule
pub mod Plays
pub mod Seats
