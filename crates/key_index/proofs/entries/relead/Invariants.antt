use Rattle.std.proofs.Common.{◌≡◌, length, take}
use Rattle.std.specs.Prelude.{All}
use Rattle.key_index.specs.Lead.{rows_of, IsLed}
use Rattle.key_index.proofs.entries.relead.Given as goal

abbrev pub invariant-loop-at : goal.invariant-loop-at
invariant-loop-at g l = record {
  rows : rows_of l.entries ≡ rows_of l.initial.entries;
  len : length l.entries ≡ length l.initial.entries;
  leads : All (IsLed (g.K.Keys.key_of l.keys)) (take l.at l.entries);
}
