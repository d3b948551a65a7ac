-- What each step does to a node: nothing falls.
use Rattle.std.proofs.Common.{◌≡◌, ℕ, ◌+◌, ◌^◌, ◌<◌, ◌≤◌, ◌↔◌, Bool, true, false, true≢false, List, [], ◌∷◌, length, map, get_or, slice_set, Option, Some, None, IsTrue, ◌||◌, inl, inr, arith, refl, sym, ap, sum_by}
use Rattle.std.specs.Prelude.{◌⊎◌}
use Rattle.std.proofs.lemmas.Bool.{cases_order}
use Rattle.std.proofs.lemmas.List.{length-append}
use Rattle.rows.specs.Operation.{Operation}
use Rattle.cache_model.specs.declared.entry.Entry.{Entry}
use Rattle.cache_model.specs.Legal.{done}
use Rattle.foreign_list.specs.Blocks.{Block}
use Rattle.run_log.specs.JournalState.{JournalState}
use Rattle.run_log.specs.Replies.{Replies as ReplyLog}
use Rattle.shard_memory.specs.Tickets.{Tickets}
use Rattle.shard_memory.specs.declared.share.Share.{Share}
use Rattle.shard_store.specs.Lending.{ComeHome, LendsBlock}
use Rattle.shard_store.specs.Stores.{StoreState}
use Rattle.shard_rings.specs.Lanes.{LinkEnd, Traffic}
use Rattle.shard_rings.specs.declared.link.Packet.{Packet}
use Rattle.shard_parts.specs.declared.stray_packet.Tried.{Tried}
use Rattle.shard_parts.specs.declared.stray_packet.Tried.TheVariants.{Nothing, Expected, Other}
use Rattle.shard_parts.specs.declared.peer.Peer.{Peer}
use Rattle.shard_node.specs.Nodes.{NodeState, PeerState}
use Rattle.shard_node.specs.inside.Moves.{Goes, Rises, done_in, packets, packets_by_all, packets_of, packets_with}
use Rattle.shard_parts.specs.Peers.{peer_state}
use Rattle.shard_parts.specs.Receives.{TriesReply, block_of, next_ask}
use Rattle.part_lemmas.specs.Releases.{CountsOn}
use Rattle.shard_node.specs.inside.Serves.{EndsExpected, EndsRequest, TriesRequest}
use Rattle.part_lemmas.proofs.OwnParts.Growth.{done-more}
use Rattle.part_lemmas.proofs.Packets.Passed.{one_more_so, sums_rise, sums_still}
use Rattle.std.proofs.lemmas.List.Sums.{sum_by-set}
use Rattle.shard_node.proofs.Turning.PeerGoes.{goes_join, goes_same}
use Rattle.shard_node.proofs.Standing.PeerPairs.{pairs_join, pairs_same}
use Rattle.shard_node.proofs.Standing.Plans.{sum_seen}
use Rattle.part_lemmas.proofs.Packets.Releases.{counts_on, one_try}

pub no_more : (n : ℕ) → (more : ℕ) × CountsOn more n n
no_more n = (0, λ most. omega (arith, most))

pub same_count : (m n : ℕ) → n ≡ m → (more : ℕ) × CountsOn more m n
same_count m n same = (0, λ most. omega (arith, most, same))

pub home_more : (lent now : Tickets) (backs later : ℕ) → backs < 2 ^ 64 → ComeHome lent now backs later → backs ≤ later
home_more lent now backs later few home = let e = home.backs in omega (arith, e, few)

pub lends_more : (share : Share) (old new : StoreState) (block : Block) → old.backs < 2 ^ 64 → LendsBlock share old new block → old.backs ≤ new.backs
lends_more share old new block few lends =
    let a = lends.came.backs in
    let b = lends.behind.backs in
    omega (arith, a, b, few)

module _ {L G : Type 0} (traffic : L → Traffic) where
  pub all_go : (a b c : NodeState L G) → Goes traffic a b → Goes traffic b c → Goes traffic a c
  all_go a b c first second = record {
    peers = pairs_join _ _ _ a.peers b.peers c.peers (λ k x y z. goes_join traffic x y z) first.peers second.peers;
    done = let e = first.done in let f = second.done in omega (arith, e, f);
    backs = let e = first.backs in let f = second.backs in omega (arith, e, f);
    looks = let e = first.looks in let f = second.looks in omega (arith, e, f);
    tally = (first.tally.0 + second.tally.0, counts_on first.tally.0 second.tally.0 a.tally b.tally c.tally first.tally.1 second.tally.1);
  }

  pub stays_goes : (a : NodeState L G) → Goes traffic a a
  stays_goes a = record { peers = pairs_same _ a.peers (λ k p. goes_same traffic p); done = omega arith; backs = omega arith; looks = omega arith; tally = no_more a.tally }

  pub packets_rise : (a b : NodeState L G) → Goes traffic a b → packets_of traffic a ≤ packets_of traffic b
  packets_rise a b goes = sums_rise (packets_with traffic) a.peers b.peers goes.peers.long (λ k d below. (goes.peers.each k d below).more)

  -- what a step does is what it does from a node that has as many packets and as much done
  pub still_so : (P : Type 0) (a b c : NodeState L G) → b.peers ≡ a.peers → done_in traffic b ≡ done_in traffic a → (P ↔ Rises traffic b c) → (P ↔ Rises traffic a c)
  still_so P a b c peers done so =
      let e = ap (sum_by (packets_with traffic)) peers in (
        λ p. elim (so.0 p) [
          | inl less ↦ inl (omega (arith, less, e))
          | inr less ↦ inr (omega (arith, less, done))
        ],
        λ rose. so.1 (elim rose [
          | inl less ↦ inl (omega (arith, less, e))
          | inr less ↦ inr (omega (arith, less, done))
        ]),
      )

  pub no_rise : (a : NodeState L G) → Rises traffic a a → ⊥
  no_rise a rose = elim rose [
    | inl less ↦ omega (arith, less)
    | inr less ↦ omega (arith, less)
  ]

module _ {L : Type 0} (traffic : L → Traffic) where
  abbrev pub over : List (PeerState L) → ℕ
  over peers = sum_by (packets_with traffic) peers

  -- at one peer
  pub one_so : (P : Type 0) (items : List (Peer L)) (at : ℕ) (old new : Peer L) → at < length items → get_or items at old ≡ old
      → (P ↔ (packets (traffic old.link) < packets (traffic new.link))) → P ↔ (over (map peer_state items) < over (map peer_state (slice_set items at new)))
  one_so P items at old new within here so =
      let f : Peer L → ℕ = λ p. packets (traffic p.link) in
      let one = one_more_so f items at old new within here in
      let a = sum_seen peer_state (packets_with traffic) items in
      let b = sum_seen peer_state (packets_with traffic) (slice_set items at new) in (
        λ is. let e = one.0 (so.0 is) in omega (arith, e, a, b),
        λ less. so.1 (one.1 (omega (arith, less, a, b))),
      )

  -- where nothing went over its link
  pub never_so : (P : Type 0) (items : List (Peer L)) (at : ℕ) (old new : Peer L) → at < length items → get_or items at old ≡ old → (entries : List Entry) → (P → ⊥)
      → packets (traffic new.link) ≡ packets (traffic old.link)
      → P ↔ ((over (map peer_state items) < over (map peer_state (slice_set items at new))) ⊎ (length (done entries) < length (done entries)))
  never_so P items at old new within here entries none same = (
    λ p. absurd (none p),
    λ so. elim so [
      | inl less ↦ (one_so P items at old new within here (λ p. absurd (none p), λ rose. absurd (omega (arith, rose, same)))).1 less
      | inr less ↦ absurd (omega (arith, less))
    ],
  )

  -- at all
  pub all_so : (P : Type 0) (items peers : List (Peer L)) → (P ↔ (packets_by_all traffic items < packets_by_all traffic peers))
      → P ↔ (over (map peer_state items) < over (map peer_state peers))
  all_so P items peers so =
      let a = sum_seen peer_state (packets_with traffic) items in
      let b = sum_seen peer_state (packets_with traffic) peers in (
        λ is. let e = so.0 is in omega (arith, e, a, b),
        λ less. so.1 (omega (arith, less, a, b)),
      )

  -- where no more passed, no more passed at one
  pub one_none : (items : List (Peer L)) (at : ℕ) (old new : Peer L) → at < length items → get_or items at old ≡ old
      → over (map peer_state (slice_set items at new)) ≤ over (map peer_state items) → packets (traffic new.link) ≤ packets (traffic old.link)
  one_none items at old new within here quiet =
      let f : Peer L → ℕ = λ p. packets (traffic p.link) in
      let e = sum_by-set f items at new old within in
      let is = ap f here in
      let a = sum_seen peer_state (packets_with traffic) items in
      let b = sum_seen peer_state (packets_with traffic) (slice_set items at new) in
      omega (arith, e, is, a, b, quiet)

  pub all_none : (items peers : List (Peer L)) → length peers ≡ length items
      → ((k : ℕ) (d : Peer L) → k < length items → packets (traffic (get_or items k d).link) ≤ packets (traffic (get_or peers k d).link))
      → over (map peer_state peers) ≤ over (map peer_state items)
      → (k : ℕ) (d : Peer L) → k < length items → packets (traffic (get_or peers k d).link) ≤ packets (traffic (get_or items k d).link)
  all_none items peers same each quiet =
      let a = sum_seen peer_state (packets_with traffic) items in
      let b = sum_seen peer_state (packets_with traffic) peers in
      sums_still (λ (p : Peer L). packets (traffic p.link)) items peers same each (omega (arith, quiet, a, b))

  module _ (end : L → LinkEnd) where
    pub took_tally : (a b : Peer L) (log logged : ReplyLog) (tally tally' : ℕ) (tried : Tried) → TriesReply traffic end a b log logged tally tally' tried
        → (more : ℕ) × CountsOn more tally tally'
    took_tally a b log logged tally tally' tried (inl none) = same_count tally tally' none.2
    took_tally a b log logged tally tally' tried (inr takes) = let one = one_try (block_of takes.packet) b.held_reply tally tally' takes.tries in (one.released, one.counts)

    module _ (a b : Peer L) (store store' : StoreState) (journal journal' : JournalState) (tally tally' : ℕ) where
      pub served_tally : (tried : Tried) → TriesRequest traffic end a b store store' journal journal' tally tally' tried → (more : ℕ) × CountsOn more tally tally'
      served_tally tried (inl none) = same_count tally tally' none.3
      served_tally tried (inr serves) = let one = one_try (block_of serves.packet) b.held_request tally tally' serves.tries in (one.released, one.counts)

      expected_rises : (next : Option Operation) → store.backs < 2 ^ 64 → EndsExpected next a b store store' journal journal'
          → (store.backs ≤ store'.backs) × (store.looks ≤ store'.looks) × (length (done journal.entries) ≤ length (done journal'.entries))
      expected_rises (Some operation) few does = (
        lends_more _ store store' does.reply few does.lends,
        does.lends.looks,
        let e = ap (λ (entries : List Entry). length (done entries)) does.does.recorded.entries in
            let f = ap length (done-more journal.entries does.does.evicted operation.number) in
            let g = length-append (done journal.entries) (operation.number ∷ []) in
            omega (arith, e, f, g),
      )
      expected_rises None few hears = (
        let e = ap (λ (s : StoreState). s.backs) hears.same_store in omega (arith, e),
        let e = ap (λ (s : StoreState). s.looks) hears.same_store in omega (arith, e),
        let e = ap (λ (j : JournalState). length (done j.entries)) hears.same_journal in omega (arith, e),
      )

      ended_rises : (tried : Tried) (packet : Packet) → store.backs < 2 ^ 64 → EndsRequest packet a b store store' journal journal' tried
          → (store.backs ≤ store'.backs) × (store.looks ≤ store'.looks) × (length (done journal.entries) ≤ length (done journal'.entries))
      ended_rises Nothing packet few ends = absurd ends
      ended_rises Expected packet few ends = expected_rises (next_ask a) few ends.1
      ended_rises (Other stray) packet few ends = (
        let e = ap (λ (s : StoreState). s.backs) ends.same_store in omega (arith, e),
        let e = ap (λ (s : StoreState). s.looks) ends.same_store in omega (arith, e),
        let e = ap (λ (j : JournalState). length (done j.entries)) ends.same_journal in omega (arith, e),
      )

      pub served_rises : (tried : Tried) → store.backs < 2 ^ 64 → TriesRequest traffic end a b store store' journal journal' tally tally' tried
          → (store.backs ≤ store'.backs) × (store.looks ≤ store'.looks) × (length (done journal.entries) ≤ length (done journal'.entries))
      served_rises tried few (inl none) = (
        let e = ap (λ (s : StoreState). s.backs) none.1 in omega (arith, e),
        let e = ap (λ (s : StoreState). s.looks) none.1 in omega (arith, e),
        let e = ap (λ (j : JournalState). length (done j.entries)) none.2 in omega (arith, e),
      )
      served_rises tried few (inr serves) = ended_rises tried serves.packet few serves.ends

-- what moved so far, and at one try more
pub tries_so_far : (was so_far now : Bool) (x y z : ℕ) → (IsTrue so_far ↔ (IsTrue was ⊎ (x < y))) → (IsTrue now ↔ (y < z)) → x ≤ y → y ≤ z
    → (IsTrue (so_far || now) ↔ (IsTrue was ⊎ (x < z)))
tries_so_far was true now x y z first second low high = (
  λ is. elim (first.0 refl) [
    | inl before ↦ inl before
    | inr less ↦ inr (omega (arith, less, high))
  ],
  λ less. refl,
)
tries_so_far was false true x y z first second low high = (λ is. inr (let e = second.0 refl in omega (arith, e, low)), λ less. refl)
tries_so_far was false false x y z first second low high = (
  λ is. absurd (true≢false (sym is)),
  λ so. elim so [
    | inl before ↦ first.1 (inl before)
    | inr less ↦ elim (cases_order x y) [
      | inl same ↦ second.1 (omega (arith, same, less))
      | inr (inl rose) ↦ first.1 (inr rose)
      | inr (inr fell) ↦ absurd (omega (arith, fell, low))
    ]
  ],
)
