-- The answers so far were counted, and the places are those of the next command.
use Rattle.std.proofs.Common.{◌≡◌, ℕ, List, take}
use Rattle.rows.specs.Apply.{Reply}
use Rattle.cache_model.specs.Logged.{AreLogged}
use Rattle.cache_model.specs.Summary.{tally}
use Rattle.trace_text.specs.Parsed.{trace_in}
use Rattle.report_text.specs.Views.{replies_in}
use Rattle.report_text.specs.inside.Places.{ArePlaces}
use Rattle.report_text.specs.inside.Tallies.{tally_in, total}
use Rattle.report_text.proofs.tally.tally_of.Given as goal

abbrev pub invariant-loop-index : goal.invariant-loop-index
invariant-loop-index l = record {
  places : ArePlaces (trace_in l.run.trace.now) l.run.trace.now.shards l.index l.places;
  many : total l.tally ≡ l.index;
  counted : (answers : List (ℕ × Reply)) → AreLogged (trace_in l.run.trace.now) l.run.shards (replies_in l.run.logs.now) answers → tally_in l.tally ≡ tally (take l.index answers);
}
