-- Blocks that waited to be released, and were.
use Rattle.std.proofs.Common.{◌≡◌, ℕ, ◌-◌, ◌<◌, ◌≤◌, ◌↔◌, Bool, false, true≢false, List, length, map, get_or, slice_get, Option, Some, None, IsSome, IsTrue, inl, inr, arith, refl, sym, ap, ◌∙◌}
use Rattle.std.proofs.lemmas.Bool.{cases_order}
use Rattle.foreign_list.specs.Blocks.{Block}
use Rattle.shard_rings.specs.Lanes.{Lanes, on, Traffic}
use Rattle.shard_rings.specs.declared.link.Lane.{Lane}
use Rattle.shard_rings.specs.declared.link.Lane.TheVariants.{Requests, Replies}
use Rattle.shard_parts.specs.declared.peer.Peer.{Peer}
use Rattle.shard_node.specs.Nodes.{NodeState}
use Rattle.shard_node.specs.Standing.{one_if}
use Rattle.shard_node.specs.Turns.{IsEmpty, Raced}
use Rattle.shard_node.specs.inside.Moves.{Frees}
use Rattle.shard_parts.specs.Peers.{Each, TriesHeld, held, held_by_all, peer_state}
use Rattle.part_lemmas.specs.Releases.{Releases, Tries, held_count}
use Rattle.part_lemmas.proofs.Packets.Passed.{one_rose, sums_still}
use Rattle.shard_node.proofs.Requests.Served.{get_map}

pub tries_fewer : (a b : Option Block) (x y : ℕ) → Tries a b x y → one_if b ≤ one_if a
tries_fewer None b x y tries = let e = ap one_if tries.0 in omega (arith, e)
tries_fewer (Some block) None x y tries = omega arith
tries_fewer (Some block) (Some later) x y tries = omega arith

-- a test that was not met
pub not_less : (b : Bool) (x y : ℕ) → (IsTrue b ↔ (x < y)) → b ≡ false → y ≤ x
not_less b x y so unmet = elim (cases_order x y) [
  | inl same ↦ omega (arith, same)
  | inr (inl less) ↦ absurd (true≢false (sym (so.1 less) ∙ unmet))
  | inr (inr more) ↦ omega (arith, more)
]

one_fewer : (a b : Option Block) → one_if b < one_if a → IsSome a × IsEmpty b
one_fewer None b less = absurd (omega (arith, less))
one_fewer (Some block) None less = (refl, refl)
one_fewer (Some block) (Some later) less = absurd (omega (arith, less))

-- on which lane
fewer_lane : (a b : Lanes (Option Block)) → held_count b < held_count a → (lane : Lane) × IsSome (on lane a) × IsEmpty (on lane b)
fewer_lane a b less =
    let other : one_if a.requests ≤ one_if b.requests → (lane : Lane) × IsSome (on lane a) × IsEmpty (on lane b) =
    λ more. (let e = one_fewer a.replies b.replies (omega (arith, more, less)) in (Replies, e.0, e.1)) in
    elim (cases_order (one_if b.requests) (one_if a.requests)) [
      | inl same ↦ other (omega (arith, same))
      | inr (inl fewer) ↦ (let e = one_fewer a.requests b.requests fewer in (Requests, e.0, e.1))
      | inr (inr more) ↦ other (omega (arith, more))
    ]

module _ {L G : Type 0} (traffic : L → Traffic) (holds : G → ℕ) where
  raced_so : (a b : Option Block) (x y : ℕ) → Tries a b x y → one_if a ≤ one_if b → Raced traffic holds a b
  raced_so None b x y tries many = tt
  raced_so (Some block) None x y tries many = absurd (omega (arith, many))
  raced_so (Some block) (Some later) x y tries many =
      let seen = ap (λ (b : Block). b.seen) tries.0.1 in (ap (λ (b : Block). b.pass) tries.0.1, omega (arith, seen))

  -- no fewer wait: each was raced
  pub races : (items peers : List (Peer L)) → length peers ≡ length items → Each TriesHeld items peers → held_by_all items ≤ held_by_all peers
      → (k : ℕ) (d : Peer L) → k < length items
      → Raced traffic holds (held (get_or items k d)).requests (held (get_or peers k d)).requests × Raced traffic holds (held (get_or items k d)).replies (held (get_or peers k d)).replies
  races items peers same each many k d below =
      let f : Peer L → ℕ = λ p. held_count (held p) in
      let inside : k < length peers = omega (arith, same, below) in
      let low : (j : ℕ) (e : Peer L) → j < length peers → f (get_or peers j e) ≤ f (get_or items j e) =
      λ j e less.
      let t = each j e (omega (arith, same, less)) in
      let p = tries_fewer _ _ _ _ t.tries.requests in
      let q = tries_fewer _ _ _ _ t.tries.replies in
      omega (arith, p, q) in
      let here = sums_still f peers items (sym same) low many k d inside in
      let t = each k d below in
      let p = tries_fewer _ _ _ _ t.tries.requests in
      let q = tries_fewer _ _ _ _ t.tries.replies in (
        raced_so _ _ _ _ t.tries.requests (omega (arith, here, p, q)),
        raced_so _ _ _ _ t.tries.replies (omega (arith, here, p, q)),
      )

  pub frees : (old new : NodeState L G) (items peers : List (Peer L)) → old.peers ≡ map peer_state items → new.peers ≡ map peer_state peers → length peers ≡ length items
      → Releases (held_by_all items) (held_by_all peers) old.tally new.tally → held_by_all peers < held_by_all items → Frees traffic holds old new
  frees old new items peers was now same freed less =
      let one = one_rose (λ (p : Peer L). held_count (held p)) peers items (sym same) less in
      let lane = fewer_lane (held one.2) (held one.1) one.5 in
      let all = freed.all in
      record {
        some = (
          one.0,
          peer_state one.2,
          peer_state one.1,
          ap (λ ps. slice_get ps one.0) was ∙ get_map peer_state items one.0 one.2 one.4,
          ap (λ ps. slice_get ps one.0) now ∙ get_map peer_state peers one.0 one.1 one.3,
          (lane.0, lane.1, lane.2),
        );
        more = freed.released - 1;
        counts = λ most. let e = freed.counts most in omega (arith, e, all, less);
      }
