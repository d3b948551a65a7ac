-- The steps that change nothing but the blocks that wait, and those that came home.
use Rattle.std.proofs.Common.{◌≡◌, ℕ, nat_le, length, map, sum_by, arith, refl, sym, ap, subst, ◌∙◌, Vec}
use Rattle.std.specs.declared.alloc.Global.{Global}
use Rattle.std.proofs.lemmas.List.{length-map}
use Rattle.layout.specs.Sizes.{greatest_key}
use Rattle.rows.specs.Holds.{RowsHold}
use Rattle.regions.specs.Shapes.{guards_of}
use Rattle.shard_store.specs.Stores.{StoreState}
use Rattle.shard_store.specs.Lending.{TakesBack}
use Rattle.shard_rings.specs.Lanes.{LinkEnd, Traffic}
use Rattle.shard_parts.specs.declared.peer.Peer.{Peer}
use Rattle.shard_node.specs.declared.shard.Shard.{Shard}
use Rattle.shard_node.specs.Nodes.{PeerState}
use Rattle.shard_node.specs.Standing.{InStanding, held_of}
use Rattle.shard_node.specs.Turns.{IsDone}
use Rattle.shard_parts.specs.Peers.{Each, HoldsOther, SendsReply, held_by_all, peer_state}
use Rattle.shard_node.specs.inside.Shards.{node_state, IsConsistent}
use Rattle.shard_node.specs.inside.Steps.{IsStep}
use Rattle.part_lemmas.specs.Releases.{Releases}
use Rattle.shard_node.proofs.Standing.Counted.{home_counted}
use Rattle.shard_node.proofs.Standing.Peerwise.{all_stand, each_stands}
use Rattle.shard_node.proofs.Standing.Plans.{plans_same, same_seen, seen_each, sum_seen}
use Rattle.shard_node.proofs.Replies.Sends.{SentReply, keeps_replies, replies_sent}
use Rattle.shard_node.proofs.Standing.Stands.{came_back, released}

module _ {L G : Type 0} (traffic : L → Traffic) (end : L → LinkEnd) where
  -- blocks came home
  pub takes_back : (shard : Shard L G) (store : StoreState)
      → store ≡ record shard.store { lent = store.lent; backs = store.backs; looks = store.looks; free = store.free }
      → TakesBack shard.store store → IsConsistent shard → IsStep traffic end shard (record shard { store = store })
  takes_back shard store same came x =
      let counted = home_counted shard.store store came x.counted in
      let rows : store.rows ≡ shard.store.rows = ap (λ (s : StoreState). s.rows) same in
      record {
        consistent = record {
          read = x.read;
          formed = x.formed;
          parsed_for = x.parsed_for;
          within = x.within;
          of_shard = ap (λ (s : StoreState). s.shard) same ∙ x.of_shard;
          pages = ap (λ (s : StoreState). s.pages) same ∙ x.pages;
          of_regions = ap (λ (s : StoreState). s.regions) same ∙ x.of_regions;
          unguarded = λ g. ap (λ (s : StoreState). guards_of s.region g) same ∙ x.unguarded g;
          counted = counted;
          longest = x.longest;
          peers = x.peers;
          cursors = λ k d below. let c = x.cursors k d below in record {
            asks_trace = c.asks_trace;
            asks_origin = c.asks_origin;
            asks_shard = c.asks_shard;
            answers_trace = c.answers_trace;
            answers_origin = c.answers_origin;
            answers_shard = c.answers_shard;
          };
          own = record {
            own_trace = x.own.own_trace;
            own_shard = x.own.own_shard;
            here_trace = x.own.here_trace;
            here_origin = x.own.here_origin;
            here_shard = x.own.here_shard;
            here = x.own.here;
          };
          begun = x.begun;
          waits = x.waits;
          asked = x.asked;
          room = let r = x.room in let count = ap length rows in let most = ap (λ (s : StoreState). s.room) same in let a = r.rows in let b = r.spare in record {
            rows = omega (arith, count, most, a);
            spare = omega (arith, count, b);
            bodies = r.bodies;
            keys = r.keys;
          };
          short = subst (RowsHold (λ key. nat_le (length key.bytes) greatest_key) (λ value. nat_le (length value) shard.longest)) (sym rows) x.short;
          one_each = x.one_each;
          own_unanswered = x.own_unanswered;
          unanswered = x.unanswered;
        };
        standing = came_back traffic (node_state shard) store rows (ap (λ (s : StoreState). s.lends) same) counted.lends;
        same = record { shard = refl; shards = refl; pages = refl; trace = refl; home = ap (λ (s : StoreState). s.list) same; ends = refl };
        turns = refl;
      }

  -- blocks that waited were tried
  pub releases : (shard : Shard L G) (vec : Vec (Peer L) Global) (tally : ℕ) → length vec.items ≡ length shard.peers.items → Each HoldsOther shard.peers.items vec.items
      → Releases (held_by_all shard.peers.items) (held_by_all vec.items) shard.tally tally
      → IsConsistent shard → IsStep traffic end shard (record shard { peers = vec; tally = tally })
  releases shard vec tally same each freed x =
      let peers = vec.items in
      let items = shard.peers.items in
      let node = node_state shard in
      let before : sum_by (held_of traffic node) (map peer_state items) ≡ held_by_all items = sum_seen peer_state (held_of traffic node) items in
      let after : sum_by (held_of traffic node) (map peer_state peers) ≡ held_by_all peers = sum_seen peer_state (held_of traffic node) peers in
      let longer = length-map items (peer_state {L = L}) in
      let longer_now = length-map peers (peer_state {L = L}) in
      record {
        consistent = plans_same shard vec tally same
            (λ k d below. record { shard = ap (λ (p : Peer L). p.shard) (each k d below); asks = ap (λ (p : Peer L). p.asks) (each k d below); answers = ap (λ (p : Peer L). p.answers) (each k d below); owed = ap (λ (p : Peer L). p.owed) (each k d below) }) x;
        standing = released traffic node (map peer_state peers) tally (omega (arith, longer, longer_now, same))
            (seen_each peer_state (λ (a b : PeerState L). b ≡ record a { held = b.held }) items peers same (λ k d below. ap peer_state (each k d below)))
            (record { released = freed.released; all = omega (arith, freed.all, before, after); counts = freed.counts });
        same = record {
          shard = refl;
          shards = refl;
          pages = refl;
          trace = refl;
          home = refl;
          ends = same_seen (λ (p : PeerState L). end p.link) (map peer_state items) (map peer_state peers) (omega (arith, longer, longer_now, same))
              (seen_each peer_state (λ (a b : PeerState L). end b.link ≡ end a.link) items peers same (λ k d below. ap (λ (p : Peer L). end p.link) (each k d below)));
        };
        turns = refl;
      }

  -- replies that waited were tried
  pub sends_replies : (shard : Shard L G) (vec : Vec (Peer L) Global) → length vec.items ≡ length shard.peers.items → Each (SendsReply traffic end) shard.peers.items vec.items
      → IsConsistent shard → IsStep traffic end shard (record shard { peers = vec })
  sends_replies shard vec same each x =
      let peers = vec.items in
      let items = shard.peers.items in
      let node = node_state shard in
      let longer = length-map items (peer_state {L = L}) in
      let longer_now = length-map peers (peer_state {L = L}) in
      record {
        consistent = plans_same shard vec shard.tally same
            (λ k d below. let e = (each k d below).same in record { shard = ap (λ (p : Peer L). p.shard) e; asks = ap (λ (p : Peer L). p.asks) e; answers = ap (λ (p : Peer L). p.answers) e; owed = ap (λ (p : Peer L). p.owed) e }) x;
        standing = replies_sent traffic node (map peer_state peers) (omega (arith, longer, longer_now, same))
            (seen_each peer_state (SentReply traffic) items peers same (λ k d below.
            let e = each k d below in
            record { same = ap peer_state e.same; keeps = keeps_replies _ _ _ _ e.sends }));
        same = record {
          shard = refl;
          shards = refl;
          pages = refl;
          trace = refl;
          home = refl;
          ends = same_seen (λ (p : PeerState L). end p.link) (map peer_state items) (map peer_state peers) (omega (arith, longer, longer_now, same))
              (seen_each peer_state (λ (a b : PeerState L). end b.link ≡ end a.link) items peers same (λ k d below. (each k d below).same_end));
        };
        turns = refl;
      }

  -- a turn more is counted
  pub turn_counted : (shard : Shard L G) (turns : ℕ) → IsConsistent shard → IsConsistent (record shard { turns = turns })
  turn_counted shard turns x = record {
    read = x.read;
    formed = x.formed;
    parsed_for = x.parsed_for;
    within = x.within;
    of_shard = x.of_shard;
    pages = x.pages;
    of_regions = x.of_regions;
    unguarded = x.unguarded;
    counted = x.counted;
    longest = x.longest;
    peers = x.peers;
    cursors = λ k d below. let c = x.cursors k d below in record {
      asks_trace = c.asks_trace;
      asks_origin = c.asks_origin;
      asks_shard = c.asks_shard;
      answers_trace = c.answers_trace;
      answers_origin = c.answers_origin;
      answers_shard = c.answers_shard;
    };
    own = record {
      own_trace = x.own.own_trace;
      own_shard = x.own.own_shard;
      here_trace = x.own.here_trace;
      here_origin = x.own.here_origin;
      here_shard = x.own.here_shard;
      here = x.own.here;
    };
    begun = x.begun;
    waits = x.waits;
    asked = x.asked;
    room = record { rows = x.room.rows; spare = x.room.spare; bodies = x.room.bodies; keys = x.room.keys };
    short = x.short;
    one_each = x.one_each;
    own_unanswered = x.own_unanswered;
    unanswered = x.unanswered;
  }

  pub counted_stands : (shard : Shard L G) (turns : ℕ) → InStanding traffic (node_state shard) → InStanding traffic (node_state (record shard { turns = turns }))
  counted_stands shard turns stands =
      let node = node_state shard in
      let now = node_state (record shard { turns = turns }) in
      all_stand traffic now (record {
        journal = record { legal = stands.journal.legal; pressure = stands.journal.pressure };
        own = stands.own;
        one_each = stands.logged.one_each;
        logged = stands.logged.own;
        lent = record { lends = stands.lent.lends; out = stands.lent.out };
        received = record { released = stands.kept.received.released; all = stands.kept.received.all; counted = stands.kept.received.counted };
      }) (λ k d below. let x = each_stands traffic node stands k d below in record {
        asked = x.asked;
        served = x.served;
        replied = x.replied;
        logged = record { replies = x.logged.replies; taken = x.logged.taken; logged = x.logged.logged; answers = x.logged.answers; owed = x.logged.owed };
        requests = record { count = x.requests.count; next = x.requests.next };
        replies = record { count = x.replies.count; next = x.replies.next };
        placed = record { asks = x.placed.asks; heard = x.placed.heard; told = x.placed.told };
      })

  -- it is as done as it was
  pub counted_done : {H : G → ℕ} (shard : Shard L G) (turns : ℕ) → IsDone traffic H (node_state shard) → IsDone traffic H (node_state (record shard { turns = turns }))
  counted_done shard turns done = record {
    answered = done.answered;
    parted = λ k d below. let p = done.parted k d below in record { heard = p.heard; told = p.told; released_requests = p.released_requests; released_replies = p.released_replies; replied = p.replied };
    asked = done.asked;
    idle = done.idle;
  }
