-- The texts are computed.
use Rattle.std.proofs.Common.{refl}
use Rattle.std.specs.Fmt.{digits}
use Rattle.tree_nodes.specs.Order.{key_cmp}
use Rattle.index_mode.specs.IndexText.{index_text}
use Rattle.index_mode.proofs.law.texts_are_as_worked.Goals as goal

pub returns : goal.returns
unfolding digits key_cmp index_text
returns c = record { both = refl; full = refl }
