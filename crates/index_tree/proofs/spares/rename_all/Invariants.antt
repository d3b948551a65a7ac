use Rattle.std.proofs.Common.{◌≡◌, ◌++◌, map, take, drop}
use Rattle.regions.specs.Stores.{renamed}
use Rattle.index_tree.proofs.spares.rename_all.Given as goal

abbrev pub invariant-loop-i : goal.invariant-loop-i
invariant-loop-i l = l.places ≡ map (renamed l.from l.to) (take l.i l.fn.places) ++ drop l.i l.fn.places
