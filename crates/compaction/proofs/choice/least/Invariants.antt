use Rattle.std.proofs.Common.{ℕ, ◌<◌, ◌≤◌}
use Rattle.std.specs.Prelude.{slice_index}
use Rattle.compaction.proofs.choice.least.Given as goal

abbrev pub invariant-loop-number : goal.invariant-loop-number
invariant-loop-number l = record {
  inside : l.least < l.number;
  least : (m : ℕ) → m < l.number → slice_index l.counts l.least ≤ slice_index l.counts m;
  first : (m : ℕ) → m < l.least → slice_index l.counts l.least < slice_index l.counts m;
}
