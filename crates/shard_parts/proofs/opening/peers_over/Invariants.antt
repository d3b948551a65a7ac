use Rattle.std.specs.Prelude.{◌≡◌, ◌+◌, ◌++◌, ◌≤◌, All, length, map, take, vec_capacity}
use Rattle.std.specs.Vec.Iter.{into_iter_items, into_iter_len}
use Rattle.shard_parts.specs.Opening.{IsNewPeer}
use Rattle.part_lemmas.specs.Exchange.{others}
use Rattle.shard_parts.proofs.opening.peers_over.Given as goal

abbrev pub invariant-loop-link : goal.invariant-loop-link
invariant-loop-link g l =
    (map (λ peer. peer.link) l.peers.items ++ into_iter_items l.link-iterator ≡ l.fn.links.items)
    × (into_iter_len l.link-iterator ≡ length (into_iter_items l.link-iterator))
    × (map (λ peer. peer.shard) l.peers.items ≡ take (length l.peers.items) (others l.fn.trace.shards l.fn.shard))
    × All (IsNewPeer l.fn.trace l.fn.trace.shards l.fn.shard) l.peers.items
    × (l.fn.trace.shards ≤ vec_capacity l.peers + 1)
