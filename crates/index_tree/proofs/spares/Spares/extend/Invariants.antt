-- The first of them are there.
use Rattle.std.proofs.Common.{◌≡◌, ◌+◌, ◌++◌, ◌≤◌, length, take}
use Rattle.index_tree.proofs.spares.Spares.extend.Given as goal

abbrev pub invariant-loop-place : goal.invariant-loop-place
invariant-loop-place l = (l.self ≡ l.initial.self ++ take l.place-index l.more) × (length l.initial.self + length l.more ≤ 16)
