use Rattle.std.proofs.Common.{◌≡◌, ◌≤◌, length, take}
use Rattle.std.specs.Vec.{vec_capacity}
use Rattle.key_table.specs.inside.Waiting.{numbers_of}
use Rattle.key_table.proofs.waiting.take_all.Given as goal

abbrev pub invariant-loop-at : goal.invariant-loop-at
invariant-loop-at l = record {
  taken : l.numbers.items ≡ numbers_of (take l.at l.waiting.items);
  long : length l.numbers.items ≡ l.at;
  capacity : vec_capacity l.fn.numbers ≤ vec_capacity l.numbers;
}
