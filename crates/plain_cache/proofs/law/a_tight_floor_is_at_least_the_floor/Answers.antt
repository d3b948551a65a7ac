use Rattle.std.proofs.Common.{arith}
use Rattle.plain_cache.proofs.law.a_tight_floor_is_at_least_the_floor.Goals as goal

pub returns : goal.returns
returns c pages lent count few = omega arith
