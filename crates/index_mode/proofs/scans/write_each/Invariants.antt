-- The keys so far are written, and the others are the rest.
use Rattle.std.proofs.Common.{ℕ, ◌-◌, ◌≤◌, List, drop, length}
use Rattle.rows.specs.KeyBody.{AreKeys}
use Rattle.index_mode.proofs.Keys.{AreLeft}
use Rattle.index_mode.proofs.scans.write_each.Given as goal

abbrev pub invariant-loop-span : goal.invariant-loop-span
invariant-loop-span g l = record {
  within : l.at ≤ length l.body;
  left : (keys : List (List ℕ)) → AreKeys l.body keys →
      AreLeft l.fn.out l.out (drop l.at l.body) keys;
}

abbrev pub decreases-loop-span : goal.decreases-loop-span
decreases-loop-span g l = length l.body - l.at
