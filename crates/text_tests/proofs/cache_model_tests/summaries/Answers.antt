-- The texts are computed.
use Rattle.std.proofs.Common.{refl}
use Rattle.std.specs.Fmt.{digits}
use Rattle.text_tests.proofs.cache_model_tests.summaries.Goals as goal

pub returns : goal.returns
unfolding digits
returns c = record { each = refl; joined = refl; evicted = refl }
