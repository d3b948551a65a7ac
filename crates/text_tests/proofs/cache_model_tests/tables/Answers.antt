-- The definitions compute on the example.
use Rattle.std.proofs.Common.{refl}
use Rattle.std.specs.Fmt.{digits}
use Rattle.text_tests.proofs.cache_model_tests.tables.Goals as goal

pub returns : goal.returns
unfolding digits
returns c = record {
  text = refl;
  not_found = refl;
  other_stays = refl;
  no_further = refl;
  floors = (refl, refl, refl);
  tight = refl;
  one_region = λ legal. cc;
  oldest = refl;
  another = λ legal. cc;
  used_later = refl;
}
