use Rattle.std.proofs.Common.{◌≡◌, length}
use Rattle.regions.specs.Shapes.{guards_of, held_count, shape}
use Rattle.fragments.specs.Store.{values_of}
use Rattle.store_tests.proofs.fragments_tests.trial.Trial.new.Given as goal

abbrev pub invariant-loop-number : goal.invariant-loop-number
invariant-loop-number l =
    (length (values_of l.store) ≡ l.fn.names) × (held_count l.store.region ≡ l.number) × ((shape l.store.region).most ≡ 64) × (guards_of l.store.region 0 ≡ 0)
