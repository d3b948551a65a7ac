use Rattle.std.specs.Prelude.{◌≡◌, ◌+◌, ◌++◌, ◌≤◌, length, map, vec_capacity}
use Rattle.std.specs.Vec.Iter.{into_iter_items, into_iter_len}
use Rattle.shard_node.proofs.node.links_of.Given as goal

abbrev pub invariant-loop-peer : goal.invariant-loop-peer
invariant-loop-peer g l =
    (l.links.items ++ map (λ peer. peer.link) (into_iter_items l.peer-iterator) ≡ map (λ peer. peer.link) l.fn.peers.items)
    × (into_iter_len l.peer-iterator ≡ length (into_iter_items l.peer-iterator))
    × (length l.links.items + into_iter_len l.peer-iterator ≤ vec_capacity l.links)
