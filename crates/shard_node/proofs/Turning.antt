-- The steps of a turn, and what it answers.
pub mod Steps
pub mod Joins
pub mod Calms
pub mod AsksGate
pub mod ThroughGate
pub mod TellsStrays
pub mod StraysCame
pub mod TurnTold
pub mod PeerGoes
pub mod Frees
pub mod StepGoes
pub mod TurnMoves
pub mod HeldUps
pub mod IdleTurn
