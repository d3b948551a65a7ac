use Rattle.std.proofs.Common.{◌≡◌, ◌≤◌, length, take}
use Rattle.std.specs.Vec.{vec_capacity}
use Rattle.key_table.specs.inside.Waiting.{numbers_of}
use Rattle.key_table.proofs.waiting.note_all.Given as goal

abbrev pub invariant-loop-at : goal.invariant-loop-at
invariant-loop-at g l = record {
  noted : numbers_of l.waiting.items ≡ take l.at l.numbers.items;
  long : length l.waiting.items ≡ l.at;
  capacity : vec_capacity l.fn.waiting ≤ vec_capacity l.waiting;
}
