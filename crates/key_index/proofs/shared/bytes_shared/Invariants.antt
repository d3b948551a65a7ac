use Rattle.std.proofs.Common.{◌-◌, length}
use Rattle.key_index.specs.inside.Shared.{HaveSame}
use Rattle.key_index.proofs.shared.bytes_shared.Given as goal

abbrev pub invariant-loop-count : goal.invariant-loop-count
invariant-loop-count l = HaveSame l.count l.a l.b

abbrev pub decreases-loop-count : goal.decreases-loop-count
decreases-loop-count l = length l.a - l.count
