use Rattle.std.proofs.Common.{◌≡◌, ℕ, ◌-◌, ◌*◌, List, length, refl, ◌∙◌, ap, arith}
use Rattle.tree_nodes.specs.inside.Splices.{taken_out}
use Rattle.tree_nodes.proofs.Nodes.{length-content}
use Rattle.tree_nodes.proofs.Calls.{child_cut}
use Rattle.tree_nodes.proofs.child_places.cut_child.Goals as goal

pub take_at-requires : goal.take_at-requires
take_at-requires c =
    let size = length-content c.args.node.now c.requires.node in
    let eight : length c.place_bytes.result ≡ 8 = ap (λ (t : List ℕ). length t) c.place_bytes.ensures in
    omega arith

pub returns-clause-node : goal.returns-clause-node
returns-clause-node c =
    (child_cut c.args.node.now c.take_at.new.content c.args.i c.child_start.result _
    c.requires.node c.requires.i c.child_start.ensures refl
    (c.take_at.ensures ∙ ap (λ t. taken_out c.child_start.result ((16 - c.args.i) * 8) t c.args.node.now) c.place_bytes.ensures)).0

pub returns-clause-holds : goal.returns-clause-holds
returns-clause-holds c =
    (child_cut c.args.node.now c.take_at.new.content c.args.i c.child_start.result _
    c.requires.node c.requires.i c.child_start.ensures refl
    (c.take_at.ensures ∙ ap (λ t. taken_out c.child_start.result ((16 - c.args.i) * 8) t c.args.node.now) c.place_bytes.ensures)).1
