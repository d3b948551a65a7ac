-- The keys so far were taken, and the others are the rest.
use Rattle.std.proofs.Common.{ℕ, ◌-◌, ◌≤◌, List, drop, length}
use Rattle.rows.specs.KeyBody.{AreKeys}
use Rattle.report_text.proofs.Gathered.{AreGathered}
use Rattle.report_text.proofs.found.keys_of.Given as goal

abbrev pub invariant-loop-span : goal.invariant-loop-span
invariant-loop-span l = record {
  within : l.at ≤ length l.body;
  gathered : (keys : List (List ℕ)) → AreKeys l.body keys → AreGathered l.keys.items (drop l.at l.body) keys;
}

abbrev pub decreases-loop-span : goal.decreases-loop-span
decreases-loop-span l = length l.body - l.at
