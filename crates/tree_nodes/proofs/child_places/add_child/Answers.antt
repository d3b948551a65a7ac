use Rattle.std.proofs.Common.{◌≡◌, ℕ, ◌-◌, ◌*◌, List, length, refl, ◌∙◌, ap, arith}
use Rattle.tree_nodes.specs.inside.Splices.{put_in}
use Rattle.tree_nodes.proofs.Nodes.{length-content}
use Rattle.tree_nodes.proofs.Calls.{child_added}
use Rattle.tree_nodes.proofs.child_places.add_child.Goals as goal

pub put_at-requires : goal.put_at-requires
put_at-requires c =
    let size = length-content c.args.node.now c.requires.node in
    let eight : length c.place_bytes.result ≡ 8 = ap (λ (t : List ℕ). length t) c.place_bytes.ensures in
    omega arith

pub returns-clause-node : goal.returns-clause-node
returns-clause-node c =
    (child_added c.args.node.now c.put_at.new.content c.args.i c.child_start.result _ c.args.place
    c.requires.node c.requires.i c.child_start.ensures refl c.ranges.place.fits
    (c.put_at.ensures ∙ ap (λ t. put_in c.child_start.result ((16 - c.args.i) * 8) t c.args.node.now) c.place_bytes.ensures)).0

pub returns-clause-holds : goal.returns-clause-holds
returns-clause-holds c =
    (child_added c.args.node.now c.put_at.new.content c.args.i c.child_start.result _ c.args.place
    c.requires.node c.requires.i c.child_start.ensures refl c.ranges.place.fits
    (c.put_at.ensures ∙ ap (λ t. put_in c.child_start.result ((16 - c.args.i) * 8) t c.args.node.now) c.place_bytes.ensures)).1
