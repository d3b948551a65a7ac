-- The reply that waits for one peer is tried.
use Rattle.std.proofs.Common.{◌≡◌, ℕ, ◌<◌, length, map, get_or, slice_set, arith, refl, sym, ap, subst, ◌∙◌}
use Rattle.std.specs.Vec.{with_item}
use Rattle.std.proofs.lemmas.List.{get_or-map, length-map, length-set, map-set}
use Rattle.shard_rings.specs.Lanes.{LinkEnd, Traffic}
use Rattle.shard_parts.specs.declared.peer.Peer.{Peer}
use Rattle.shard_node.specs.declared.shard.Shard.{Shard}
use Rattle.shard_node.specs.Nodes.{PeerState}
use Rattle.shard_node.specs.Standing.{InStanding}
use Rattle.shard_parts.specs.Peers.{SendsReply, peer_state}
use Rattle.shard_node.specs.inside.Shards.{IsConsistent, node_state}
use Rattle.shard_node.specs.inside.Steps.{IsStep}
use Rattle.shard_node.proofs.Standing.Consistent.{SameWork, ends-same, one_changed, work_stays}
use Rattle.shard_node.proofs.Replies.Sends.{SentReply, keeps_replies, replies_sent}

module _ {L G : Type 0} (traffic : L → Traffic) (end : L → LinkEnd) where
  pub sends_one : (shard : Shard L G) (at : ℕ) (old new : Peer L) → at < length shard.peers.items → ((d : Peer L) → get_or shard.peers.items at d ≡ old)
      → SendsReply traffic end old new → IsConsistent shard → IsStep traffic end shard (record shard { peers = with_item shard.peers at new })
  sends_one shard at old new within here sends x =
      let peers = shard.peers.items in
      let states = map peer_state peers in
      let many : length states ≡ length peers = length-map peers peer_state in
      let work : SameWork old new = record {
        shard = ap (λ (p : Peer L). p.shard) sends.same;
        asks = ap (λ (p : Peer L). p.asks) sends.same;
        answers = ap (λ (p : Peer L). p.answers) sends.same;
        owed = ap (λ (p : Peer L). p.owed) sends.same;
      } in
      let sent : SentReply traffic (peer_state old) (peer_state new) = record {
        same = ap peer_state sends.same;
        keeps = keeps_replies old.reply new.reply (traffic old.link) (traffic new.link) sends.sends;
      } in
      let state_here : (d : PeerState L) → get_or states at d ≡ peer_state old = λ d. get_or-map peer_state peers at old d within ∙ ap peer_state (here old) in
      record {
        consistent = work_stays shard (with_item shard.peers at new) shard.tally (length-set peers at new)
            (one_changed SameWork peers at new (λ p. record { shard = refl; asks = refl; answers = refl; owed = refl }) within (λ d. subst (λ p. SameWork p new) (sym (here d)) work)) x;
        standing = λ stands. subst (λ ps. InStanding traffic (record (node_state shard) { peers = ps })) (sym (map-set peer_state peers at new))
            (replies_sent traffic (node_state shard) (slice_set states at (peer_state new)) (length-set states at (peer_state new))
            (one_changed (SentReply traffic) states at (peer_state new)
            (λ p. record { same = refl; keeps = record { requests = refl; received = refl; replies = refl; count = refl } }) (omega (arith, within, many))
            (λ d. subst (λ p. SentReply traffic p (peer_state new)) (sym (state_here d)) sent)) stands);
        same = record {
          shard = refl;
          shards = refl;
          pages = refl;
          trace = refl;
          home = refl;
          ends = ends-same end peers (slice_set peers at new) (length-set peers at new)
              (one_changed (λ a b. end b.link ≡ end a.link) peers at new (λ p. refl) within (λ d. sends.same_end ∙ ap (λ p. end p.link) (sym (here d))));
        };
        turns = refl;
      }
