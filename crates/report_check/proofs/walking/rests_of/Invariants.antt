-- Of each shard so far.
use Rattle.std.proofs.Common.{◌≡◌, ℕ, ◌<◌, [], length}
use Rattle.std.specs.List.{slice_index_or}
use Rattle.part_lemmas.specs.Rest.{RestState}
use Rattle.report_check.specs.inside.Walks.{IsRestBehind}
use Rattle.report_check.proofs.walking.rests_of.Given as goal

abbrev pub invariant-loop-origin : goal.invariant-loop-origin
invariant-loop-origin l = record {
  many : length l.rests.items ≡ l.origin;
  each : (o : ℕ) (d : RestState) → o < l.origin → IsRestBehind l.trace l.shard [] o (slice_index_or l.rests.items o d);
}
