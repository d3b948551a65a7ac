-- The texts are computed.
use Rattle.std.proofs.Common.{refl}
use Rattle.std.specs.Fmt.{digits}
use Rattle.dirty_mode.specs.DirtyText.{dirty_text}
use Rattle.store_tests.proofs.dirty_region_tests.texts.texts.Goals as goal

pub returns : goal.returns
unfolding digits dirty_text
returns c = record { twice = refl; passed = refl; all_stay = refl; oldest_goes = refl; two_go = refl; greatest = refl; of_forty = refl; many = refl }
