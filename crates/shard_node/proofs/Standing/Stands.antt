-- A node stays in standing.
use Rattle.std.proofs.Common.{◌≡◌, ℕ, suc, ◌+◌, ◌<◌, List, [], ◌∷◌, length, get_or, arith, refl, sym, ap, subst, ◌∙◌, sum_by, Option, Some}
use Rattle.std.specs.List.{All}
use Rattle.std.proofs.lemmas.List.Sums.{sum_by-cons}
use Rattle.foreign_list.specs.Blocks.{Block}
use Rattle.shard_rings.specs.Lanes.{Lanes, Traffic}
use Rattle.shard_store.specs.Stores.{StoreState}
use Rattle.layout.specs.Counts.{raised}
use Rattle.shard_memory.specs.Tickets.{tickets_out}
use Rattle.shard_node.specs.Nodes.{NodeState, PeerState}
use Rattle.shard_node.specs.Standing.{InStanding, held_of, received_from}
use Rattle.part_lemmas.specs.Releases.{Releases}
use Rattle.shard_node.proofs.Standing.Peerwise.{StandsWith, all_stand, each_stands, stays}

sum-of-two : {X : Type 0} (f : X → ℕ) (x y : X) (xs ys : List X) → f y ≡ f x → sum_by f ys ≡ sum_by f xs → sum_by f (y ∷ ys) ≡ sum_by f (x ∷ xs)
sum-of-two f x y xs ys first others =
    let a = sum_by-cons f x xs in
    let b = sum_by-cons f y ys in
    omega (arith, a, b, first, others)

-- sums that agree element by element
pub sums-agree : {X : Type 0} (f : X → ℕ) (xs ys : List X) → length ys ≡ length xs → ((k : ℕ) (d : X) → k < length xs → f (get_or ys k d) ≡ f (get_or xs k d))
    → sum_by f ys ≡ sum_by f xs
sums-agree f [] [] same agree = refl
sums-agree f [] (y ∷ ys) same agree = absurd (omega (arith, same))
sums-agree f (x ∷ xs) [] same agree = absurd (omega (arith, same))
sums-agree f (x ∷ xs) (y ∷ ys) same agree =
    let first : f y ≡ f x = agree 0 x (omega arith) in
    let others : sum_by f ys ≡ sum_by f xs = sums-agree f xs ys (omega (arith, same)) (λ k d below. agree (suc k) d (omega (arith, below))) in
    sum-of-two f x y xs ys first others

module _ {L : Type 0} where
  -- the same peers, but for the blocks that wait to be released
  abbrev pub HoldOther : List (PeerState L) → List (PeerState L) → Type 0
  HoldOther old new = (k : ℕ) (d : PeerState L) → k < length old → get_or new k d ≡ record (get_or old k d) { held = (get_or new k d).held }

  still : (P Q : PeerState L → Type 0) (old new : List (PeerState L)) → ((p : PeerState L) (h : Lanes (Option Block)) → P p → Q (record p { held = h }))
      → length new ≡ length old → HoldOther old new → All P old → All Q new
  still P Q old new keeps same other all k d below =
      let inside : k < length old = omega (arith, below, same) in
      subst Q (sym (other k d inside)) (keeps (get_or old k d) (get_or new k d).held (all k d inside))

module _ {L G : Type 0} (traffic : L → Traffic) where
  holding : (node : NodeState L G) (peers : List (PeerState L)) (tally : ℕ) (p : PeerState L) (h : Lanes (Option Block)) → StandsWith traffic node p
      → StandsWith traffic (record node { peers = peers; tally = tally }) (record p { held = h })
  holding node peers tally p h x = record {
    asked = x.asked;
    served = x.served;
    replied = x.replied;
    logged = record { replies = x.logged.replies; taken = x.logged.taken; logged = x.logged.logged; answers = x.logged.answers; owed = x.logged.owed };
    requests = record { count = x.requests.count; next = x.requests.next };
    replies = record { count = x.replies.count; next = x.replies.next };
    placed = record { asks = x.placed.asks; heard = x.placed.heard; told = x.placed.told };
  }

  pub released : (node : NodeState L G) (peers : List (PeerState L)) (tally : ℕ) → length peers ≡ length node.peers → HoldOther node.peers peers
      → Releases (sum_by (held_of traffic node) node.peers) (sum_by (held_of traffic node) peers) node.tally tally
      → InStanding traffic node → InStanding traffic (record node { peers = peers; tally = tally })
  released node peers tally same other releases stands =
      let now : NodeState L G = record node { peers = peers; tally = tally } in
      let received : sum_by (received_from traffic node) peers ≡ sum_by (received_from traffic node) node.peers =
      sums-agree (received_from traffic node) node.peers peers same (λ k d below. ap (received_from traffic node) (other k d below)) in
      let before = stands.kept.received.all in
      let more = releases.all in
      let counted = stands.kept.received.counted in
      all_stand traffic now (record {
        journal = record { legal = stands.journal.legal; pressure = stands.journal.pressure };
        own = stands.own;
        one_each = stands.logged.one_each;
        logged = stands.logged.own;
        lent = record { lends = stands.lent.lends; out = stands.lent.out };
        received = record {
          released = stands.kept.received.released + releases.released;
          all = omega (arith, received, before, more);
          counted = let e = releases.counts (omega (arith, counted)) in omega (arith, e, counted);
        };
      }) (still (StandsWith traffic node) (StandsWith traffic now) node.peers peers (holding node peers tally) same other (each_stands traffic node stands))

  -- blocks come back, and no row changes
  pub came_back : (node : NodeState L G) (store : StoreState) → store.rows ≡ node.store.rows → store.lends ≡ node.store.lends
      → store.lends ≡ raised store.backs (tickets_out store.lent) → InStanding traffic node → InStanding traffic (record node { store = store })
  came_back node store rows lends out stands =
      let now : NodeState L G = record node { store = store } in
      all_stand traffic now (record {
        journal = record { legal = stands.journal.legal ∙ ap Some (sym rows); pressure = stands.journal.pressure };
        own = stands.own;
        one_each = stands.logged.one_each;
        logged = stands.logged.own;
        lent = record { lends = lends ∙ stands.lent.lends; out = out };
        received = record { released = stands.kept.received.released; all = stands.kept.received.all; counted = stands.kept.received.counted };
      }) (λ k d below. stays traffic node store node.journal node.log node.peers node.begun node.request node.gate node.tally (get_or node.peers k d) (λ i reply e. e)
      (record { done = refl; logged = refl; begun = refl; waiting = refl }) (each_stands traffic node stands k d below))
