-- What callers see of a node's peers.
use Rattle.std.proofs.Common.{◌≡◌, List, [], ◌∷◌, length, map, refl, ap, arith}
use Rattle.std.proofs.lemmas.List.{length-map}
use Rattle.shard_parts.specs.declared.peer.Peer.{Peer}
use Rattle.shard_node.specs.Nodes.{PeerState}
use Rattle.shard_parts.specs.Peers.{peer_state}

-- it is told of the peers themselves
pub of-peers : {L X : Type 0} (f : PeerState L → X) (peers : List (Peer L)) → map f (map peer_state peers) ≡ map (λ peer. f (peer_state peer)) peers
of-peers f [] = refl
of-peers f (peer ∷ peers) = ap (λ xs. f (peer_state peer) ∷ xs) (of-peers f peers)

-- there are as many of them as are seen
pub as-many : {L X : Type 0} (f : PeerState L → X) (xs ys : List (Peer L)) → map f (map peer_state xs) ≡ map f (map peer_state ys) → length xs ≡ length ys
as-many f xs ys same =
    let all = ap length same in
    let seen = length-map (map peer_state xs) f in
    let peers = length-map xs peer_state in
    let others_seen = length-map (map peer_state ys) f in
    let others = length-map ys peer_state in
    omega (arith, all, seen, peers, others_seen, others)
