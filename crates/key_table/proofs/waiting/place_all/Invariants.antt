use Rattle.std.proofs.Common.{◌≡◌, ℕ, ◌<◌, ◌≤◌, length, get_or}
use Rattle.std.specs.Vec.{vec_capacity}
use Rattle.key_table.proofs.waiting.place_all.Given as goal

abbrev pub invariant-loop-at : goal.invariant-loop-at
invariant-loop-at l = record {
  placed : (k : ℕ) → k < l.at → get_or l.places.items (get_or l.numbers.items k 0) 0 ≡ k;
  long : length l.places.items ≡ length l.fn.places.items;
  capacity : vec_capacity l.fn.places ≤ vec_capacity l.places;
}
