use Rattle.std.proofs.Common.{◌+◌, ◌-◌, ◌/◌, List, sym, ◌∙◌, arith}
use Rattle.tree_nodes.specs.Nodes.{Entry, node_in, no_entry}
use Rattle.tree_nodes.proofs.Rising.{at_least, at_most, is_less}
use Rattle.tree_nodes.proofs.search.find_among.Goals as goal

pub loop-low-preserved-then-is_below : goal.loop-low-preserved-then-is_below
loop-low-preserved-then-is_below c =
    let es : List Entry = (node_in c.args.node.now).entries in
    let middle = c.loop-low.low + (c.loop-low.high - c.loop-low.low) / 2 in
    let within = c.loop-low.invariant.within in
    let more = at_least c.args.key.now es middle no_entry c.requires.rising (omega arith) (is_less _ (sym c.is_below.ensures ∙ c.if-is_below.true)) in
    record { least = omega arith; most = c.loop-low.invariant.most; within = within }

pub loop-low-preserved : goal.loop-low-preserved
loop-low-preserved c =
    let es : List Entry = (node_in c.args.node.now).entries in
    let middle = c.loop-low.low + (c.loop-low.high - c.loop-low.low) / 2 in
    let within = c.loop-low.invariant.within in
    let few = at_most c.args.key.now es middle no_entry c.requires.rising (omega arith) (sym c.is_below.ensures ∙ c.if-is_below.false) in
    record { least = c.loop-low.invariant.least; most = few; within = omega arith }
