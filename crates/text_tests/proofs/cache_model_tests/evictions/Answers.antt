-- The numbers are computed.
use Rattle.std.proofs.Common.{arith, refl}
use Rattle.rows.specs.Evictions.{Evicts}
use Rattle.text_tests.proofs.cache_model_tests.evictions.Goals as goal

pub returns : goal.returns
unfolding Evicts
returns c = record {
  floors = (refl, refl, refl, refl);
  tight = refl;
  oldest = refl;
  another = λ legal. cc;
  gone = λ legal. cc;
  one_goes = (refl, omega arith, refl);
  no_more = λ evicts. absurd (omega (arith, evicts.2.1));
  not_another = λ evicts. cc;
  at_floor = (refl, refl);
  above_floor = (refl, refl);
}
