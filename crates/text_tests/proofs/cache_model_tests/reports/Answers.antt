-- The texts are computed.
use Rattle.std.proofs.Common.{refl}
use Rattle.std.specs.Fmt.{digits}
use Rattle.text_tests.proofs.cache_model_tests.reports.Goals as goal

pub returns : goal.returns
unfolding digits
returns c = record { at_home = refl; away = refl; joined = refl }
