use Rattle.std.proofs.Common.{◌≡◌, replicate}
use Rattle.fragments.proofs.store.no_lengths.Given as goal

abbrev pub invariant-loop-name : goal.invariant-loop-name
invariant-loop-name l = l.lengths.items ≡ replicate l._name 0
