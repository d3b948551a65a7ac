use Rattle.std.proofs.Common.{◌≡◌, ℕ, ◌*◌, ◌≤◌, false, length}
use Rattle.number_set.specs.inside.Words.{bit_of}
use Rattle.number_set.proofs.bits.last.Given as goal

abbrev pub invariant-loop-above : goal.invariant-loop-above
invariant-loop-above l = (l.above ≤ length l.words) × ((m : ℕ) → 64 * l.above ≤ m → bit_of l.words m ≡ false)

abbrev pub decreases-loop-above : goal.decreases-loop-above
decreases-loop-above l = l.above
