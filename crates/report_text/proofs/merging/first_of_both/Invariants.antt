-- The keys so far, and behind them what is left of both lists, are the keys of both.
use Rattle.std.proofs.Common.{◌+◌, ◌-◌, ◌≤◌, length}
use Rattle.report_text.proofs.Gathered.{texts}
use Rattle.report_text.proofs.Taken.{AreTaken}
use Rattle.report_text.proofs.merging.first_of_both.Given as goal

abbrev pub invariant-loop-at : goal.invariant-loop-at
invariant-loop-at l = record {
  within : l.at ≤ length l.keys;
  other_within : l.other_at ≤ length l.others;
  few : length l.both.items ≤ l.count;
  taken : AreTaken (texts l.keys) (texts l.others) l.at l.other_at (texts l.both.items);
}

abbrev pub decreases-loop-at : goal.decreases-loop-at
decreases-loop-at l = (length l.keys - l.at) + (length l.others - l.other_at)
