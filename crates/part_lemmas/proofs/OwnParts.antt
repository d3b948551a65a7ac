-- The parts that a shard issues, one after the other: which they are, and what one of them does.
pub mod PartsBefore
pub mod IssuedParts
pub mod Counts
pub mod LogPlaces
pub mod BegunParts
pub mod Growth
pub mod WorkLeft
pub mod OpenedPeers
pub mod NextPart
pub mod ShortRows
pub mod Alone
