-- What a turn has seen so far.
use Rattle.std.specs.Prelude.{Bool, true, false, Option, Some, None}
use Rattle.shard_parts.specs.declared.stray_packet.StrayPacket.{StrayPacket}
use Rattle.shard_parts.specs.declared.stray_packet.Tried.{Tried}
use Rattle.shard_parts.specs.declared.stray_packet.Tried.TheVariants.{Nothing, Expected, Other}
use Rattle.shard_node.specs.declared.turn.Turn.{Turn}
use Rattle.shard_node.specs.declared.turn.Turn.TheVariants.{Moved, Idle, Stray}

-- whether a packet came
abbrev pub has_come : Tried → Bool
has_come Nothing = false
has_come Expected = true
has_come (Other stray) = true

-- the first packet that was set aside, after one more try
abbrev pub first_stray : Option StrayPacket → Tried → Option StrayPacket
first_stray (Some stray) tried = Some stray
first_stray None (Other stray) = Some stray
first_stray None Expected = None
first_stray None Nothing = None

-- what a turn answers after which the node is not done
abbrev pub answer_of : Option StrayPacket → Bool → Turn
answer_of (Some stray) moved = Stray stray.peer stray.expected stray.found
answer_of None true = Moved
answer_of None false = Idle
