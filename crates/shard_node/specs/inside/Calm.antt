-- Whether anything waits between the turns of a node.
use Rattle.std.specs.Prelude.{Bool, IsTrue, All}
use Rattle.shard_node.specs.Nodes.{NodeState}
pub use Rattle.shard_parts.specs.Peers.{WaitsNone}

-- where it is true, no block of a peer waits to be released, and no reply to be sent
abbrev pub IsCalm : {L G : Type 0} → Bool → NodeState L G → Type 0
IsCalm calm node = IsTrue calm → All WaitsNone node.peers
