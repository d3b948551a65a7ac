use Rattle.std.proofs.Common.{◌≡◌, ℕ, ◌≤◌, length}
use Rattle.common_lemmas.specs.Lists.{times}
use Rattle.key_table.specs.inside.Mixed.{both, CanSettle}
use Rattle.key_table.proofs.settling.drain.Given as goal

abbrev pub invariant-loop : goal.invariant-loop
invariant-loop g l = record {
  settled : CanSettle (g.K.Keys.has_row l.keys) (g.K.Keys.key_of l.keys) l.order l.late;
  all : (n : ℕ) → both l.order l.late n ≡ both l.fn.order l.fn.late n;
  more : (n : ℕ) → times n l.fn.order.rows ≤ times n l.order.rows;
  order_room : l.order.room ≡ l.fn.order.room;
  late_room : l.late.bound ≡ l.fn.late.bound;
}

abbrev pub decreases-loop : goal.decreases-loop
decreases-loop g l = length l.late.numbers
