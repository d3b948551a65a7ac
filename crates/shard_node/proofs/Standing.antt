-- What a node is in standing with its peers, and what keeps it so.
pub mod Peerwise
pub mod Stands
pub mod Strays
pub mod Plans
pub mod Counted
pub mod Consistent
pub mod Byes
pub mod Ends
pub mod Opened
pub mod OpenedStands
pub mod SeenPeers
pub mod PeerPairs
