-- The keys so far were put, and the others are the rest.
use Rattle.std.proofs.Common.{ℕ, ◌-◌, ◌≤◌, List, drop, length}
use Rattle.rows.specs.KeyBody.{AreKeys}
use Rattle.report_text.proofs.Keys.{AreAdded}
use Rattle.report_text.proofs.lines.put_keys.Given as goal

abbrev pub invariant-loop-span : goal.invariant-loop-span
invariant-loop-span g l = record {
  within : l.at ≤ length l.body;
  added : (keys : List (List ℕ)) → AreKeys l.body keys →
      AreAdded l.fn.writer l.writer (drop l.at l.body) keys;
}

abbrev pub decreases-loop-span : goal.decreases-loop-span
decreases-loop-span g l = length l.body - l.at
