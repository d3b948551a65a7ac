use Rattle.std.proofs.Common.{◌≡◌}
use Rattle.shard_store.specs.Stores.{IsUnguarded}
use Rattle.timed.proofs.turns.parts.do_parts.Given as goal

abbrev pub invariant-loop-command : goal.invariant-loop-command
invariant-loop-command l = IsUnguarded l.store × (l.store.room ≡ 1)
