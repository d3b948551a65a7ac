use Rattle.std.proofs.Common.{◌≡◌, ◌-◌, ◌++◌, length, replicate, vec_len, vec_capacity}
use Rattle.index_lists.proofs.table.write_alike.Given as goal

abbrev pub invariant-loop : goal.invariant-loop
invariant-loop g l =
    (l.written.items ≡ l.fn.written.items ++ replicate (l.counter - length l.fn.written.items) l.rest)
    × (vec_len l.written ≡ l.counter)
    × (vec_capacity l.written ≡ vec_capacity l.fn.written)
