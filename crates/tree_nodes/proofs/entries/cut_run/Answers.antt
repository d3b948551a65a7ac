use Rattle.std.proofs.Common.{◌-◌, ◌*◌, ap, arith}
use Rattle.tree_nodes.proofs.Nodes.{length-content}
use Rattle.tree_nodes.proofs.Runs.{entries_cut}
use Rattle.tree_nodes.proofs.entries.cut_run.Goals as goal

pub close_up-requires : goal.close_up-requires
close_up-requires c =
    let size = length-content c.args.node.now c.requires.node in
    let few = c.requires.node.node.few in
    omega arith

pub returns-clause-node : goal.returns-clause-node
returns-clause-node c = (entries_cut c.args.node.now c.close_up.new.content c.set_count.new.node c.args.i c.args.n c.entry_start.result ((c.count-held.result - c.args.n - c.args.i) * 264) (c.count-held.result - c.args.n)
    c.requires.node c.requires.run c.entry_start.ensures (ap (λ k. (k - c.args.n - c.args.i) * 264) c.count-held.ensures) (ap (λ k. k - c.args.n) c.count-held.ensures)
    c.close_up.ensures c.set_count.ensures).0

pub returns-clause-holds : goal.returns-clause-holds
returns-clause-holds c = (entries_cut c.args.node.now c.close_up.new.content c.set_count.new.node c.args.i c.args.n c.entry_start.result ((c.count-held.result - c.args.n - c.args.i) * 264) (c.count-held.result - c.args.n)
    c.requires.node c.requires.run c.entry_start.ensures (ap (λ k. (k - c.args.n - c.args.i) * 264) c.count-held.ensures) (ap (λ k. k - c.args.n) c.count-held.ensures)
    c.close_up.ensures c.set_count.ensures).1

pub set_count-requires : goal.set_count-requires
set_count-requires c =
    let size = length-content c.args.node.now c.requires.node in
    let same = c.close_up.auto.content in
    omega arith
