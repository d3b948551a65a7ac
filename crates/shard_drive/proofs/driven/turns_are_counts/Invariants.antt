use Rattle.std.proofs.Common.{All, take, ◌≤◌}
use Rattle.layout.specs.Counts.{greatest_count}
use Rattle.shard_drive.proofs.driven.turns_are_counts.Given as goal

-- those so far are not above the greatest
abbrev pub invariant-loop-node : goal.invariant-loop-node
invariant-loop-node g l = All (λ node. g.N.Driven.turns node ≤ greatest_count) (take l.node-index l.nodes)
