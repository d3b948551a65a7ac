use Rattle.std.proofs.Common.{◌-◌, ◌≤◌, length, take, drop}
use Rattle.rows.specs.Key.{key_shown}
use Rattle.key_index.specs.Order.{AreBelow, AreAbove}
use Rattle.key_index.specs.Lead.{rows_of}
use Rattle.key_index.specs.inside.Blocks.{entries_of}
use Rattle.key_index.specs.inside.Sought.{IsSought}
use Rattle.key_index.specs.inside.Shared.{IsLowBound, IsHighBound}
use Rattle.key_index.proofs.search.count_upto.Given as goal

abbrev pub invariant-loop-low : goal.invariant-loop-low
invariant-loop-low g l = record {
  sought : IsSought (key_shown l.key) l.sought;
  ordered : l.low ≤ l.high;
  within : l.high ≤ length l.blocks.contents;
  below : AreBelow (g.K.Keys.key_of l.keys) (key_shown l.key) (rows_of (entries_of (take (l.low - 1) l.blocks.contents)));
  above : AreAbove (g.K.Keys.key_of l.keys) (key_shown l.key) (rows_of (entries_of (drop l.high l.blocks.contents)));
  low_bound : IsLowBound (g.K.Keys.key_of l.keys) (key_shown l.key) (rows_of (entries_of (drop (l.low - 1) l.blocks.contents))) l.low_shared;
  high_bound : IsHighBound (g.K.Keys.key_of l.keys) (key_shown l.key) (rows_of (entries_of (take l.high l.blocks.contents))) l.high_shared;
}

abbrev pub decreases-loop-low : goal.decreases-loop-low
decreases-loop-low g l = l.high - l.low
