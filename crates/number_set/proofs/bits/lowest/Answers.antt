use Rattle.std.proofs.Common.{arith}
use Rattle.std.proofs.lemmas.Nat.Bits.{bit_at-trailing_zeros}
use Rattle.std.specs.Int.{w64}
use Rattle.number_set.proofs.bits.lowest.Goals as goal

pub returns-clause-here : goal.returns-clause-here
returns-clause-here c = (bit_at-trailing_zeros w64 c.args.word (omega (arith, c.requires)) c.ranges.word.fits).1

pub returns-clause-below : goal.returns-clause-below
returns-clause-below c = (bit_at-trailing_zeros w64 c.args.word (omega (arith, c.requires)) c.ranges.word.fits).2
