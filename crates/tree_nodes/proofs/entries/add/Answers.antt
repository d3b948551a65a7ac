use Rattle.std.proofs.Common.{◌≡◌, ℕ, ◌+◌, ◌-◌, ◌*◌, List, length, ◌∙◌, ap, arith}
use Rattle.tree_nodes.specs.inside.Splices.{put_in}
use Rattle.tree_nodes.proofs.Fields.{length-entry}
use Rattle.tree_nodes.proofs.Nodes.{length-content}
use Rattle.tree_nodes.proofs.Calls.{entry_added}
use Rattle.tree_nodes.proofs.entries.add.Goals as goal

pub put_at-requires : goal.put_at-requires
put_at-requires c =
    let size = length-content c.args.node.now c.requires.node in
    let wide : length c.as_slice.result.now ≡ 264 = ap (λ (t : List ℕ). length t) (c.as_slice.ensures ∙ c.entry_of-entry.ensures)
    ∙ length-entry (record { key = c.args.key.now; number = c.args.number }) (record { some_key = c.requires.some_key; short_key = c.requires.short_key; number = c.ranges.number.fits }) in
    omega arith

pub returns-clause-node : goal.returns-clause-node
returns-clause-node c = (entry_added c.args.node.now c.put_at.new.content c.set_count.new.node c.args.i c.entry_start.result ((c.count-held.result - c.args.i) * 264) (c.count-held.result + 1)
    (record { key = c.args.key.now; number = c.args.number }) c.requires.node c.requires.i c.requires.room c.entry_start.ensures (ap (λ k. (k - c.args.i) * 264) c.count-held.ensures)
    (ap (λ k. k + 1) c.count-held.ensures) (record { some_key = c.requires.some_key; short_key = c.requires.short_key; number = c.ranges.number.fits })
    (c.put_at.ensures ∙ ap (λ t. put_in c.entry_start.result ((c.count-held.result - c.args.i) * 264) t c.args.node.now) (c.as_slice.ensures ∙ c.entry_of-entry.ensures)) c.set_count.ensures).0

pub returns-clause-holds : goal.returns-clause-holds
returns-clause-holds c = (entry_added c.args.node.now c.put_at.new.content c.set_count.new.node c.args.i c.entry_start.result ((c.count-held.result - c.args.i) * 264) (c.count-held.result + 1)
    (record { key = c.args.key.now; number = c.args.number }) c.requires.node c.requires.i c.requires.room c.entry_start.ensures (ap (λ k. (k - c.args.i) * 264) c.count-held.ensures)
    (ap (λ k. k + 1) c.count-held.ensures) (record { some_key = c.requires.some_key; short_key = c.requires.short_key; number = c.ranges.number.fits })
    (c.put_at.ensures ∙ ap (λ t. put_in c.entry_start.result ((c.count-held.result - c.args.i) * 264) t c.args.node.now) (c.as_slice.ensures ∙ c.entry_of-entry.ensures)) c.set_count.ensures).1
