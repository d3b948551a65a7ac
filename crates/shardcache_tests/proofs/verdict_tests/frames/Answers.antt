-- They compute.
use Rattle.std.proofs.Common.{refl}
use Rattle.std.specs.Fmt.{digits}
use Rattle.shardcache_tests.proofs.verdict_tests.frames.Goals as goal

pub returns : goal.returns
unfolding digits
returns c = record { empty = refl; none = refl; some = refl; short = refl; leading_zero = refl; unended = refl }
