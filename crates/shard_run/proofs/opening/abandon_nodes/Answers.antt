use Rattle.std.proofs.Common.{◌∷◌, [], length, refl, ap, subst, sym, ◌∙◌, arith, length-append}
use Rattle.std.specs.Vec.Iter.{into_iter_items}
use Rattle.std.proofs.lemmas.List.{nil_from_length}
use Rattle.shard_run.proofs.Openings.{AreAbandoned, all_abandoned, next_node, one_abandoned}
use Rattle.shard_run.proofs.opening.abandon_nodes.Goals as goal

pub abandon-requires : goal.abandon-requires
abandon-requires g c κs =
    let h = c.loop-node.invariant.0 in (
      (refl, tt),
      c.requires.unturned (length h.gone) c.in-Some.node
          (next_node c.args.nodes.items (into_iter_items c.loop-node.node-iterator) (into_iter_items c.next.new.self) c.args.seats.now.items c.loop-node.seats.items c.in-Some.node h c.in-Some.ensures.steps.0),
    )

pub loop-node-preserved : goal.loop-node-preserved
loop-node-preserved g c =
    let h = c.loop-node.invariant in
    let rest = c.in-Some.ensures.steps in
    let more = c.hand_back.ensures.seat in
    let longer = ap length more ∙ length-append c.loop-node.seats.items (c.abandon.result.seat ∷ []) in
    let fewer = ap length rest.0 in
    let r1 = rest.1 in
    let h1 = h.1 in
    let h2 = h.2 in
    let room = c.hand_back.ensures.room in (
      subst (λ l. AreAbandoned c.args.nodes.items (into_iter_items c.next.new.self) c.args.seats.now.items l) (sym more)
          (one_abandoned c.args.nodes.items (into_iter_items c.loop-node.node-iterator) (into_iter_items c.next.new.self) c.args.seats.now.items c.loop-node.seats.items c.in-Some.node c.abandon.result.seat h.0 rest.0
          c.abandon.ensures.seat),
      omega (arith, fewer, r1, h1),
      omega (arith, longer, r1, h2, room),
    )

pub returns : goal.returns
returns g c =
    let h = c.loop-node.invariant in
    let none = nil_from_length (into_iter_items c.loop-node.node-iterator) (sym h.1 ∙ c.in-None.ensures.steps.0) in
    all_abandoned c.args.nodes.items (into_iter_items c.loop-node.node-iterator) c.args.seats.now.items c.loop-node.seats.items h.0 none
