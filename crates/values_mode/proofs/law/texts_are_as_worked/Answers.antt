-- The texts are computed.
use Rattle.std.proofs.Common.{refl}
use Rattle.std.specs.Fmt.{digits}
use Rattle.values_mode.specs.Text.{values_text}
use Rattle.values_mode.proofs.law.texts_are_as_worked.Goals as goal

pub returns : goal.returns
unfolding digits values_text
returns c = record { dropped = refl; short = refl; all_set = refl; last_full = refl; two_full = refl; greatest = refl; of_forty = refl; four = refl; five = refl }
