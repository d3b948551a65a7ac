use Rattle.std.proofs.Common.{◌≡◌, ◌∷◌, ◌++◌, length, map, take, rules, arith, ap, sym, subst, ◌∙◌, Some, slice_get}
use Rattle.std.specs.List.{All}
use Rattle.std.specs.Vec.Iter.{into_iter_items}
use Rattle.shard_parts.specs.Opening.{IsNewPeer}
use Rattle.part_lemmas.specs.Exchange.{others}
use Rattle.part_lemmas.proofs.OwnParts.OpenedPeers.{all-more, all-others, one-more, over-all, over-more}
use Rattle.shard_parts.proofs.opening.peers_over.Goals as goal

pub loop-link-preserved : goal.loop-link-preserved
loop-link-preserved g c =
    let old = c.loop-link.peers.items in
    let peer = c.new.result in
    let numbers = others c.args.trace.now.shards c.args.shard in
    let links = c.args.links.items in
    let rest = into_iter_items c.next.new.self in
    let x = c.loop-link.invariant in
    let steps = c.in-Some.ensures.steps in
    let items = c.push_reserved.ensures.items in
    let many : c.len.result ≡ length old = search rules in
    let next : slice_get numbers (length old) ≡ Some peer.shard =
    ap (slice_get numbers) (sym many) ∙ ap (λ n. slice_get (others n c.args.shard) c.len.result) (sym c.shards-shards.ensures.value) ∙ c.number_at-number.ensures.place ∙ ap Some (sym c.new.ensures.number) in
    let before = x.1 in
    let room = x.4 in
    let grown = c.push_reserved.ensures.capacity in
    let one = steps.1 in
    let shorter = ap length steps.0 in (
      subst (λ ps. map (λ p. p.link) ps ++ rest ≡ links) (sym items) (over-more (λ p. p.link) old peer (into_iter_items c.loop-link.link-iterator) rest links x.0 (steps.0 ∙ ap (λ l. l ∷ rest) (sym c.new.ensures.link))),
      omega (arith, before, one, shorter),
      subst (λ ps. map (λ p. p.shard) ps ≡ take (length ps) numbers) (sym items) (one-more (λ p. p.shard) numbers old peer x.2 next),
      subst (All (IsNewPeer c.args.trace.now c.args.trace.now.shards c.args.shard)) (sym items) (all-more (IsNewPeer c.args.trace.now c.args.trace.now.shards c.args.shard) old peer x.3 c.new.ensures.new),
      omega (arith, room, grown),
    )

pub returns-clause-numbers : goal.returns-clause-numbers
returns-clause-numbers g c =
    let x = c.loop-link.invariant in
    all-others (λ p. p.shard) (λ p. p.link) c.args.trace.now.shards c.args.shard c.loop-link.peers.items c.args.links.items c.requires.within c.requires.links
    (over-all (λ p. p.link) c.loop-link.peers.items _ _ x.0 (sym x.1 ∙ c.in-None.ensures.steps.0)) x.2
