use Rattle.std.proofs.Common.{All, take}
use Rattle.shard_drive.proofs.driven.have_finished.Given as goal

-- those so far are done
abbrev pub invariant-loop-node : goal.invariant-loop-node
invariant-loop-node g l = All g.N.Driven.is_done (take l.node-index l.nodes)
