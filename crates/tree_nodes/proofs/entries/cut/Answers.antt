use Rattle.std.proofs.Common.{◌≡◌, ℕ, ◌-◌, ◌*◌, List, length, ◌∙◌, ap, arith}
use Rattle.tree_nodes.specs.inside.Splices.{taken_out}
use Rattle.std.proofs.lemmas.List.{length-replicate}
use Rattle.tree_nodes.proofs.Nodes.{length-content}
use Rattle.tree_nodes.proofs.Calls.{entry_cut}
use Rattle.tree_nodes.proofs.entries.cut.Goals as goal

pub take_at-requires : goal.take_at-requires
take_at-requires c =
    let size = length-content c.args.node.now c.requires.node in
    let few = c.requires.node.node.few in
    let wide : length c.as_slice.result.now ≡ 264 = ap (λ (t : List ℕ). length t) c.as_slice.ensures ∙ length-replicate {A = ℕ} 264 0 in
    omega arith

pub returns-clause-node : goal.returns-clause-node
returns-clause-node c = (entry_cut c.args.node.now c.take_at.new.content c.set_count.new.node c.args.i c.entry_start.result ((c.count-held.result - 1 - c.args.i) * 264) (c.count-held.result - 1)
    c.requires.node c.requires.i c.entry_start.ensures (ap (λ k. (k - 1 - c.args.i) * 264) c.count-held.ensures) (ap (λ k. k - 1) c.count-held.ensures)
    (c.take_at.ensures ∙ ap (λ t. taken_out c.entry_start.result ((c.count-held.result - 1 - c.args.i) * 264) t c.args.node.now) c.as_slice.ensures) c.set_count.ensures).0

pub returns-clause-holds : goal.returns-clause-holds
returns-clause-holds c = (entry_cut c.args.node.now c.take_at.new.content c.set_count.new.node c.args.i c.entry_start.result ((c.count-held.result - 1 - c.args.i) * 264) (c.count-held.result - 1)
    c.requires.node c.requires.i c.entry_start.ensures (ap (λ k. (k - 1 - c.args.i) * 264) c.count-held.ensures) (ap (λ k. k - 1) c.count-held.ensures)
    (c.take_at.ensures ∙ ap (λ t. taken_out c.entry_start.result ((c.count-held.result - 1 - c.args.i) * 264) t c.args.node.now) c.as_slice.ensures) c.set_count.ensures).1
