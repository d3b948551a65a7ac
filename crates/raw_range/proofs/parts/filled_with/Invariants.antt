use Rattle.std.proofs.Common.{◌≡◌, ◌-◌, ◌≤◌}
use Rattle.std.specs.Prelude.{replicate}
use Rattle.raw_range.proofs.parts.filled_with.Given as goal

abbrev pub invariant-loop-vec : goal.invariant-loop-vec
invariant-loop-vec l = (l.vec.items ≡ replicate l.vec.len l.byte) × (l.vec.len ≤ l.len) × (l.vec.ptr ≡ l.fn.vec.ptr) × (l.vec.cap ≡ l.fn.vec.cap)

abbrev pub decreases-loop-vec : goal.decreases-loop-vec
decreases-loop-vec l = l.len - l.vec.len
