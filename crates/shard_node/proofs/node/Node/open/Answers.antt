use Rattle.std.proofs.Common.{◌≡◌, length, rules, arith, ap, sym, true≢false, ◌∙◌}
use Rattle.std.proofs.lemmas.List.{length-map}
use Rattle.shard_node.specs.Nodes.{others}
use Rattle.shard_node.proofs.Standing.SeenPeers.{of-peers}
use Rattle.shard_node.proofs.node.Node.open.Goals as goal

pub invariant_of-result : goal.invariant_of-result
invariant_of-result g c =
    let peers = c.in-Ok-open.shard.peers.items in
    let many = length-map peers (λ peer. peer.link) in
    let links = ap length c.in-Ok-open.ensures.links in
    let room = c.in-Ok.ensures.capacity in
    let asked : c.len.result ≡ length c.args.links.items = search rules in
    record {
      consistent = c.in-Ok-open.ensures.consistent;
      idle = λ new. c.in-Ok-open.ensures.lent;
      calm = λ is. absurd (true≢false (sym is));
      none = c.in-Ok.ensures.items;
      room = omega (arith, many, links, room, asked);
    }

pub returns-in-Ok-open-clause-numbers : goal.returns-in-Ok-open-clause-numbers
returns-in-Ok-open-clause-numbers g c =
    let numbers = c.in-Ok-open.ensures.numbers in
    (numbers.0, numbers.1 ∙ sym c.requires.parsed_for, numbers.2)

pub returns-in-Ok-open-clause-links : goal.returns-in-Ok-open-clause-links
returns-in-Ok-open-clause-links g c = of-peers (λ peer. peer.link) c.in-Ok-open.shard.peers.items ∙ c.in-Ok-open.ensures.links

pub returns-in-Ok-open-clause-peers : goal.returns-in-Ok-open-clause-peers
returns-in-Ok-open-clause-peers g c = of-peers (λ peer. peer.shard) c.in-Ok-open.shard.peers.items ∙ c.in-Ok-open.ensures.peers
    ∙ ap (λ n. others n c.args.shard) (sym c.requires.parsed_for)
