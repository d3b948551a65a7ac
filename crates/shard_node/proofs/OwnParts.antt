-- The parts that a shard issues, one after the other: which they are, and what one of them does.
pub mod QuietParts
pub mod OwnStands
pub mod OwnDone
pub mod OwnLog
