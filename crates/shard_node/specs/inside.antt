-- What only the private parts of a node cite.
pub mod Shards
pub mod Steps
pub mod Endings
pub mod Serves
pub mod Did
pub mod Bare
pub mod Parts
pub mod Calm
pub mod Nodes
pub mod Moves
pub mod Seen
pub mod TurnSteps
