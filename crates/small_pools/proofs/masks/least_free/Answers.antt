use Rattle.std.proofs.Common.{arith}
use Rattle.std.proofs.lemmas.Nat.Bits.{bit_at-trailing_zeros}
use Rattle.std.specs.Int.{w128}
use Rattle.small_pools.proofs.masks.least_free.Goals as goal

pub returns-clause-free : goal.returns-clause-free
returns-clause-free c = (bit_at-trailing_zeros w128 c.args.mask (omega arith) (omega arith)).1
