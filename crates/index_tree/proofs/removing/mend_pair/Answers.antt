use Rattle.std.proofs.Common.{Bool, sym, subst}
use Rattle.regions.specs.Contents.{live_at}
use Rattle.index_tree.specs.Mended.{IsMendedAt}
use Rattle.index_tree.specs.Store.{nodes_of}
use Rattle.index_tree.proofs.removing.mend_pair.Goals as goal

pub returns-then-above-clause-mended : goal.returns-then-above-clause-mended
returns-then-above-clause-mended c =
    let a = c.args in
    subst (λ (above : Bool). IsMendedAt above c.mend_above.result a.j a.at a.left a.right (nodes_of (live_at a.region.now)) (nodes_of (live_at c.mend_above.new.region))) (sym c.if-above.true) c.mend_above.ensures.mended

pub returns-clause-mended : goal.returns-clause-mended
returns-clause-mended c =
    let a = c.args in
    subst (λ (above : Bool). IsMendedAt above c.mend_leaves.result a.j a.at a.left a.right (nodes_of (live_at a.region.now)) (nodes_of (live_at c.mend_leaves.new.region))) (sym c.if-above.false) c.mend_leaves.ensures.mended
