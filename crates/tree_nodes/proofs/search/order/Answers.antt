use Rattle.std.proofs.Common.{ℕ, List, ap, ◌∙◌}
use Rattle.std.specs.Ordering.{nat_cmp}
use Rattle.std.specs.Cmp.Lexicographic.{slice_cmp}
use Rattle.tree_nodes.specs.Order.{key_cmp}
use Rattle.tree_nodes.proofs.search.order.Goals as goal

pub returns : goal.returns
unfolding key_cmp
returns c = c.cmp.ensures ∙ ap (λ (k : List ℕ). slice_cmp nat_cmp k c.args.sought.now) c.key.ensures
