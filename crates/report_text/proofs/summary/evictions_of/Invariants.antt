-- The evictions of the journals so far were added.
use Rattle.std.proofs.Common.{◌≡◌, ◌*◌, ◌^◌, ◌≤◌, take}
use Rattle.cache_model.specs.Summary.{evictions}
use Rattle.report_text.specs.Views.{journals_in}
use Rattle.report_text.proofs.summary.evictions_of.Given as goal

abbrev pub invariant-loop-journal : goal.invariant-loop-journal
invariant-loop-journal l = record {
  added : l.evictions ≡ evictions (journals_in (take l.journal-index l.journals));
  few : l.evictions ≤ l.journal-index * 2 ^ 32;
}
