use Rattle.std.proofs.Common.{◌≡◌, ℕ, ◌+◌, ◌-◌, ◌<◌, ◌≤◌, length, get_or}
use Rattle.std.specs.Vec.{vec_capacity}
use Rattle.key_table.proofs.late.reach.Given as goal

abbrev pub invariant-loop-places : goal.invariant-loop-places
invariant-loop-places l = record {
  long : length l.fn.places.items ≤ length l.places.items;
  few : (n : ℕ) → length l.fn.places.items ≤ n → l.number < n → length l.places.items ≤ n;
  same : (k : ℕ) → k < length l.fn.places.items → get_or l.places.items k 0 ≡ get_or l.fn.places.items k 0;
  capacity : vec_capacity l.fn.places ≤ vec_capacity l.places;
}

abbrev pub decreases-loop-places : goal.decreases-loop-places
decreases-loop-places l = l.number + 1 - length l.places.items
