use Rattle.std.proofs.Common.{◌≡◌, ◌++◌, map, take, drop}
use Rattle.std.specs.Prelude.{option_map}
use Rattle.regions.specs.Segments.{emptied}
use Rattle.regions.proofs.slots.clear_all.Given as goal

abbrev pub invariant-loop-number : goal.invariant-loop-number
invariant-loop-number l = l.slots ≡ map (λ s. option_map emptied s) (take l.number l.initial.slots) ++ drop l.number l.initial.slots
