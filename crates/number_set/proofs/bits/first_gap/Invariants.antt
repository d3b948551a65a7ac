use Rattle.std.proofs.Common.{◌≡◌, ℕ, ◌-◌, ◌*◌, ◌<◌, true, length}
use Rattle.number_set.specs.inside.Words.{bit_of}
use Rattle.number_set.proofs.bits.first_gap.Given as goal

abbrev pub invariant-loop-index : goal.invariant-loop-index
invariant-loop-index l = (m : ℕ) → m < 64 * l.index → bit_of l.words m ≡ true

abbrev pub decreases-loop-index : goal.decreases-loop-index
decreases-loop-index l = length l.words - l.index
