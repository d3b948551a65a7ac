-- The commands that one shard issues to another, from a place on.
pub mod Places
pub mod Rests
pub mod OtherPlaces
