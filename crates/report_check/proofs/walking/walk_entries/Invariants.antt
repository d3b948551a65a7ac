-- The walk stands behind the entries so far.
use Rattle.std.proofs.Common.{ℕ, [], List, take}
use Rattle.cache_model.specs.declared.entry.Entry.{Entry}
use Rattle.report_check.specs.inside.Walks.{StandsOver}
use Rattle.report_check.proofs.walking.walk_entries.Given as goal

abbrev pub invariant-loop-entry : goal.invariant-loop-entry
invariant-loop-entry l = (pages s : ℕ) (walked : List (List Entry)) → StandsOver l.trace pages s walked [] l.fn.walk l.fn.logs
    → StandsOver l.trace pages s walked (take l.entry-index l.entries) l.walk l.logs
