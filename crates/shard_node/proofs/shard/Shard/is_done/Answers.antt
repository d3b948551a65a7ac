use Rattle.shard_node.proofs.OwnParts.OwnLog.{begun-within}
use Rattle.shard_node.proofs.Standing.Ends.{done-is-end, end-is-done}
use Rattle.cache_lemmas.proofs.Laws.{issued_parts_are_counted-peer, a_journal_goes_on-number}
use Rattle.shard_node.proofs.shard.Shard.is_done.Goals as goal

pub returns : goal.returns
returns g c stands =
    let traffic = g.L.Link.traffic in
    let shard = c.args.self.now in
    let x = c.requires.consistent in
    let law = issued_parts_are_counted-peer in
    let tells = a_journal_goes_on-number in
    let numbered = x.read.spelled.numbered in (
      λ is. end-is-done traffic g.G.Gate.holds law tells shard x numbered stands (c.is_at_end.ensures.0 is),
      λ done. c.is_at_end.ensures.1 (done-is-end traffic g.G.Gate.holds law shard x (begun-within shard x) stands done),
    )
