-- A pass over all peers that changes one after the other.
use Rattle.std.proofs.Common.{◌≡◌, ℕ, ◌+◌, ◌<◌, ◌≤◌, ◌↔◌, Bool, true, false, true≢false, IsTrue, ◌||◌, inl, inr, List, length, get_or, slice_set, arith, refl, sym, ap, subst, ◌∙◌, sum_by}
use Rattle.std.proofs.lemmas.Bool.{cases_order}
use Rattle.std.proofs.lemmas.List.{get_or-set_same, get_or-set_other, get_or_default}
use Rattle.std.proofs.lemmas.List.Sums.{sum_by-set}
use Rattle.shard_rings.specs.Lanes.{Traffic}
use Rattle.shard_parts.specs.declared.peer.Peer.{Peer}
use Rattle.part_lemmas.specs.Exchange.{packets}
use Rattle.shard_parts.specs.Peers.{packets_by_all}
use Rattle.shard_parts.specs.Peers.{Each, HoldsOther, held, held_by_all}
use Rattle.part_lemmas.specs.Releases.{Releases, TriesBoth, held_count}
use Rattle.part_lemmas.proofs.Packets.Passed.{or_rises}
use Rattle.part_lemmas.proofs.Packets.Releases.{counts_on, two_tries}

-- A pass that changes each element once: those before the place were changed, and the others are as they were.
pub record ChangesOnce {X : Type 0} (R : X → X → Type 0) (before now : List X) (place : ℕ) : Type 0 where
  pub changed : (k : ℕ) (d : X) → k < place → R (get_or before k d) (get_or now k d)
  pub others : (k : ℕ) (d : X) → place ≤ k → get_or now k d ≡ get_or before k d

pub once_begins : {X : Type 0} (R : X → X → Type 0) (xs : List X) → ChangesOnce R xs xs 0
once_begins R xs = record { changed = λ k d below. absurd (omega (arith, below)); others = λ k d above. refl }

pub once_next : {X : Type 0} (R : X → X → Type 0) (before now : List X) (place : ℕ) (e new : X) → place < length now
    → R (get_or now place e) new → ChangesOnce R before now place → ChangesOnce R before (slice_set now place new) (place + 1)
once_next {X} R before now place e new within change so_far = record {
  changed = λ k d below. elim (cases_order k place) [
    | inl same ↦
        let here : get_or (slice_set now place new) k d ≡ new = ap (λ j. get_or (slice_set now place new) j d) same ∙ get_or-set_same now place new d within in
        let was : get_or now place e ≡ get_or before k d = get_or_default now place e d within ∙ so_far.others place d (omega arith) ∙ ap (λ j. get_or before j d) (sym same) in
        subst (λ (x : X). R (get_or before k d) x) (sym here) (subst (λ (x : X). R x new) was change)
    | inr (inl less) ↦ subst (λ (x : X). R (get_or before k d) x) (sym (get_or-set_other now place k new d (λ e. omega (arith, e, less)))) (so_far.changed k d less)
    | inr (inr more) ↦ absurd (omega (arith, more, below))
  ];
  others = λ k d above. get_or-set_other now place k new d (λ e. omega (arith, e, above)) ∙ so_far.others k d (omega (arith, above));
}

-- fewer wait, so far and now
pub or_falls : (p q : Bool) (x y z : ℕ) → (IsTrue p ↔ (y < x)) → (IsTrue q ↔ (z < y)) → y ≤ x → z ≤ y → (IsTrue (p || q) ↔ (z < x))
or_falls true q x y z first second low high = (λ is. let e = first.0 refl in omega (arith, e, high), λ less. refl)
or_falls false true x y z first second low high = (λ is. let e = second.0 refl in omega (arith, e, low), λ less. refl)
or_falls false false x y z first second low high = (
  λ is. absurd (true≢false (sym is)),
  λ less. elim (cases_order y x) [
    | inl same ↦ second.1 (omega (arith, same, less))
    | inr (inl fewer) ↦ first.1 fewer
    | inr (inr more) ↦ absurd (omega (arith, more, low))
  ],
)

module _ {L : Type 0} where
  -- one more was changed, from what it was after the changes before
  pub each_next : (R : Peer L → Peer L → Type 0) (before peers : List (Peer L)) (i : ℕ) (e new : Peer L)
      → ((a b c : Peer L) → R a b → R b c → R a c) → i < length peers → R (get_or peers i e) new
      → Each R before peers → Each R before (slice_set peers i new)
  each_next R before peers i e new joins within change each k d below = elim (cases_order k i) [
    | inl same ↦
        let here : get_or (slice_set peers i new) k d ≡ new = ap (λ j. get_or (slice_set peers i new) j d) same ∙ get_or-set_same peers i new d within in
        let was : get_or peers k d ≡ get_or peers i e = ap (λ j. get_or peers j d) same ∙ get_or_default peers i d e within in
        let first : R (get_or before k d) (get_or peers i e) = subst (λ (x : Peer L). R (get_or before k d) x) was (each k d below) in
        subst (λ (x : Peer L). R (get_or before k d) x) (sym here) (joins _ _ new first change)
    | inr (inl less) ↦ subst (λ (x : Peer L). R (get_or before k d) x) (sym (get_or-set_other peers i k new d (λ e. omega (arith, e, less)))) (each k d below)
    | inr (inr more) ↦ subst (λ (x : Peer L). R (get_or before k d) x) (sym (get_or-set_other peers i k new d (λ e. omega (arith, e, more)))) (each k d below)
  ]

  pub holds_other_joins : (a b c : Peer L) → HoldsOther a b → HoldsOther b c → HoldsOther a c
  holds_other_joins a b c first second =
      second ∙ ap (λ (x : Peer L). let y : Peer L = record x { held_request = c.held_request; held_reply = c.held_reply } in y) first

  pub release_next : (before peers : List (Peer L)) (i x y z : ℕ) (e new : Peer L)
      → i < length peers → TriesBoth (held (get_or peers i e)) (held new) y z
      → Releases (held_by_all before) (held_by_all peers) x y → Releases (held_by_all before) (held_by_all (slice_set peers i new)) x z
  release_next before peers i x y z e new within tries releases =
      let one = two_tries (held (get_or peers i e)) (held new) y z tries in
      let f : Peer L → ℕ = λ peer. held_count (held peer) in
      let sums : sum_by f (slice_set peers i new) + f (get_or peers i e) ≡ sum_by f peers + f new = sum_by-set f peers i new e within in
      let all = one.all in
      let before-all = releases.all in
      record {
        released = releases.released + one.released;
        all = omega (arith, sums, all, before-all);
        counts = counts_on releases.released one.released x y z releases.counts one.counts;
      }

  -- fewer wait where fewer of the one wait
  pub fewer_by_all : (peers : List (Peer L)) (i : ℕ) (e new : Peer L) (y z : ℕ) → i < length peers → TriesBoth (held (get_or peers i e)) (held new) y z
      → (held_by_all (slice_set peers i new) ≤ held_by_all peers)
      × ((P : Type 0) → (P ↔ (held_count (held new) < held_count (held (get_or peers i e)))) → (P ↔ (held_by_all (slice_set peers i new) < held_by_all peers)))
  fewer_by_all peers i e new y z within tries =
      let one = two_tries (held (get_or peers i e)) (held new) y z tries in
      let f : Peer L → ℕ = λ peer. held_count (held peer) in
      let sums : sum_by f (slice_set peers i new) + f (get_or peers i e) ≡ sum_by f peers + f new = sum_by-set f peers i new e within in
      let all = one.all in (
        omega (arith, sums, all),
        λ P so. (λ is. let less = so.0 is in omega (arith, sums, less), λ less. so.1 (omega (arith, sums, less))),
      )

module _ {L : Type 0} (traffic : L → Traffic) where
  -- one more of a pass in which packets are sent
  pub sent_next : (first peers : List (Peer L)) (i : ℕ) (e new : Peer L) (moved now : Bool) → i < length peers
      → (IsTrue moved ↔ (packets_by_all traffic first < packets_by_all traffic peers)) → packets_by_all traffic first ≤ packets_by_all traffic peers
      → (IsTrue now ↔ (packets (traffic (get_or peers i e).link) < packets (traffic new.link))) → packets (traffic (get_or peers i e).link) ≤ packets (traffic new.link)
      → (IsTrue (moved || now) ↔ (packets_by_all traffic first < packets_by_all traffic (slice_set peers i new)))
      × (packets_by_all traffic first ≤ packets_by_all traffic (slice_set peers i new))
  sent_next first peers i e new moved now within so_far low one more =
      let f : Peer L → ℕ = λ peer. packets (traffic peer.link) in
      let sums : sum_by f (slice_set peers i new) + f (get_or peers i e) ≡ sum_by f peers + f new = sum_by-set f peers i new e within in (
        or_rises moved now (sum_by f first) (sum_by f peers) (sum_by f (slice_set peers i new)) so_far
            (λ is. let less = one.0 is in omega (arith, sums, less), λ less. one.1 (omega (arith, sums, less))) low (omega (arith, sums, more)),
        omega (arith, sums, low, more),
      )
