pub mod Cursors
pub mod OwnParts
pub mod Packets
pub mod Recording
pub mod Together
