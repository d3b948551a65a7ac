use Rattle.std.proofs.Common.{length, ap, arith, sym, ◌∙◌}
use Rattle.std.specs.Vec.Iter.{into_iter_items}
use Rattle.std.proofs.lemmas.List.{nil_from_length}
use Rattle.shard_run.proofs.Finishings.{next_is_done, next_within, next_so_far, none_finished, one_finished, all_finished, all_have_facts, still_of_run}
use Rattle.shard_run.proofs.finishing.finish_nodes.Goals as goal

pub loop-node-init : goal.loop-node-init
loop-node-init g c =
    let gives = c.into_iter-node-iterator.ensures.into_iter_gives in (
      none_finished c.args.into.ran.trace c.args.into.ran.pages c.args.nodes.items _ c.args.into gives.0 c.requires.room,
      gives.1 ∙ c.args.nodes.ok.0 ∙ sym (ap length gives.0),
    )

pub finish_one-requires-clause-done : goal.finish_one-requires-clause-done
finish_one-requires-clause-done g c =
    next_is_done c.args.into.ran.trace c.args.into.ran.pages _ c.args.nodes.items (into_iter_items c.loop-node.node-iterator) (into_iter_items c.next.new.self) c.loop-node.into c.in-Some.node c.loop-node.invariant.0
    c.in-Some.ensures.steps.0 c.requires.nodes

pub finish_one-requires-clause-within : goal.finish_one-requires-clause-within
finish_one-requires-clause-within g c =
    next_within c.args.into.ran.trace c.args.into.ran.pages _ c.args.nodes.items (into_iter_items c.loop-node.node-iterator) (into_iter_items c.next.new.self) c.loop-node.into c.in-Some.node c.loop-node.invariant.0
    c.in-Some.ensures.steps.0 c.requires.nodes

pub finish_one-requires-clause-so_far : goal.finish_one-requires-clause-so_far
finish_one-requires-clause-so_far g c =
    next_so_far c.args.into.ran.trace c.args.into.ran.pages _ c.args.nodes.items (into_iter_items c.loop-node.node-iterator) (into_iter_items c.next.new.self) c.loop-node.into c.in-Some.node c.loop-node.invariant.0
    c.in-Some.ensures.steps.0 c.requires.nodes

pub loop-node-preserved : goal.loop-node-preserved
loop-node-preserved g c =
    let rest = c.in-Some.ensures.steps in
    let fewer = ap length rest.0 in
    let count = rest.1 in
    let was = c.loop-node.invariant.1 in (
      one_finished c.args.into.ran.trace c.args.into.ran.pages _ c.args.nodes.items (into_iter_items c.loop-node.node-iterator) (into_iter_items c.next.new.self) c.loop-node.into c.in-Some.node c.loop-node.invariant.0 rest.0
          c.requires.nodes c.finish_one.new.into c.finish_one.ensures.facts c.finish_one.ensures.leaves c.finish_one.ensures.room,
      omega (arith, fewer, count, was),
    )

pub returns-clause-left : goal.returns-clause-left
returns-clause-left g c =
    let h = c.loop-node.invariant in
    let none = nil_from_length (into_iter_items c.loop-node.node-iterator) (sym h.1 ∙ c.in-None.ensures.steps.0) in
    all_finished c.args.into.ran.trace c.args.into.ran.pages c.args.nodes.items (into_iter_items c.loop-node.node-iterator) c.loop-node.into h.0 none

pub returns-clause-facts : goal.returns-clause-facts
returns-clause-facts g c =
    let h = c.loop-node.invariant in
    let none = nil_from_length (into_iter_items c.loop-node.node-iterator) (sym h.1 ∙ c.in-None.ensures.steps.0) in
    all_have_facts c.args.into.ran.trace c.args.into.ran.pages c.args.nodes.items (into_iter_items c.loop-node.node-iterator) c.loop-node.into h.0 none

pub returns-clause-run : goal.returns-clause-run
returns-clause-run g c =
    still_of_run c.args.into.ran.trace c.args.into.ran.pages c.args.nodes.items (into_iter_items c.loop-node.node-iterator) c.loop-node.into c.loop-node.invariant.0
