-- They compute.
use Rattle.std.proofs.Common.{refl}
use Rattle.std.specs.Fmt.{digits}
use Rattle.shardcache_tests.proofs.verdict_tests.verdicts.Goals as goal

pub returns : goal.returns
unfolding digits
returns c = record {
  legal = refl;
  other_value = refl;
  other_order = refl;
  low_eviction = refl;
  high_eviction = refl;
  unended = refl;
  surplus = refl;
  both = refl;
  spelled_first = refl;
  missing = refl;
}
