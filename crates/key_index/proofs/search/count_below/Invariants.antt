use Rattle.std.proofs.Common.{◌-◌, ◌≤◌, length, take, drop}
use Rattle.rows.specs.Key.{key_shown}
use Rattle.key_index.specs.Order.{AreBelow}
use Rattle.key_index.specs.inside.Blocks.{AreAtLeast}
use Rattle.key_index.specs.Lead.{rows_of}
use Rattle.key_index.proofs.search.count_below.Given as goal

abbrev pub invariant-loop-low : goal.invariant-loop-low
invariant-loop-low g l = record {
  ordered : l.low ≤ l.high;
  within : l.high ≤ length l.entries;
  below : AreBelow (g.K.Keys.key_of l.keys) (key_shown l.key) (take l.low (rows_of l.entries));
  at_least : AreAtLeast (g.K.Keys.key_of l.keys) (key_shown l.key) (drop l.high (rows_of l.entries));
}

abbrev pub decreases-loop-low : goal.decreases-loop-low
decreases-loop-low g l = l.high - l.low
