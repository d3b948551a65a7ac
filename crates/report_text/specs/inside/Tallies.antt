-- Counted answers.
use Rattle.std.specs.Prelude.{ℕ, ◌+◌}
use Rattle.rows.specs.Apply.{Reply, Stored, Replaced, Value, Missing, Erased, Keys}
use Rattle.cache_model.specs.Summary.{Tally}
use Rattle.report_text.specs.declared.tally.Tally.{Tally as Counts}

abbrev pub tally_in : Counts → Tally
tally_in counts = record {
  stored = counts.stored;
  replaced = counts.replaced;
  values = counts.values;
  missing = counts.missing;
  erased = counts.erased;
  scans = counts.scans;
}

-- all of them together
abbrev pub total : Counts → ℕ
total counts = counts.stored + counts.replaced + counts.values + counts.missing + counts.erased + counts.scans

-- one answer more
abbrev pub with_answer : Reply → Tally → Tally
with_answer Stored tally = record tally { stored = tally.stored + 1 }
with_answer Replaced tally = record tally { replaced = tally.replaced + 1 }
with_answer (Value value) tally = record tally { values = tally.values + 1 }
with_answer Missing tally = record tally { missing = tally.missing + 1 }
with_answer Erased tally = record tally { erased = tally.erased + 1 }
with_answer (Keys keys) tally = record tally { scans = tally.scans + 1 }
