use Rattle.std.proofs.Common.{All, arith, refl, subst, sym}
use Rattle.std.proofs.lemmas.List.{take_all}
use Rattle.std.proofs.lemmas.List.Elements.{All-more}
use Rattle.shard_drive.proofs.driven.have_finished.Goals as goal

pub loop-node-preserved : goal.loop-node-preserved
loop-node-preserved g c =
    let at = c.loop-node.node-index in
    let within = c.loop-node-test.true in
    let stands = subst g.N.Driven.stands (sym c.node-item.is) (c.requires at c.node-item.result within) in
    All-more g.N.Driven.is_done c.args.nodes.now at c.node-item.result within c.loop-node.invariant
    (subst g.N.Driven.is_done c.node-item.is ((c.has_finished.ensures stands).0 c.if-not-has_finished.false))

pub returns : goal.returns
returns g c =
    let test = c.loop-node-test.false in
    let same = c.loop-node.auto.node-index-end in
    let all = subst (All g.N.Driven.is_done) (take_all c.loop-node.node-index c.args.nodes.now (omega (arith, test, same))) c.loop-node.invariant in
    (λ _. all, λ _. refl)
