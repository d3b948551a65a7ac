-- What compaction leaves: the same parts, in chains of the same lengths.
use Rattle.std.proofs.Common.{◌≡◌, ℕ, zero, suc, ◌+◌, ◌*◌, ◌/◌, ◌%◌, ◌<◌, inl, inr, List, [], ◌∷◌, length, map, refl, sym, ap, ◌∙◌, arith}
use Rattle.std.specs.Prelude.{option_map, slice_get, slice_index_or}
use Rattle.std.proofs.lemmas.Bool.Decides.{leb_tells}
use Rattle.std.proofs.lemmas.Option.{slice_get_past}
use Rattle.regions.specs.Segments.{RegionState, group_at}
use Rattle.std.specs.List.{count_by}
use Rattle.regions.specs.Shapes.{Shape, shape, pieces_in, is_held, is_free, free_count}
use Rattle.regions.specs.Stores.{Live, found, store_of}
use Rattle.regions.specs.declared.place.Place.{Place}
use Rattle.compaction.specs.Emptied.{HoldsTheSame}
use Rattle.fragments.specs.Sizes.{most_fragments}
use Rattle.fragments.specs.Fragment.{bare, bare_fragment}
use Rattle.fragments.specs.Chains.{TableShape, TableState, AreChains, HoldParts, Parts, chain_at, owner, place_at, place_of, shape_of}
use Rattle.segmented_store.specs.Segments.{HoldsSegments}

length_at : (chains : List (List Place)) (e : ℕ) → length (chain_at chains e) ≡ slice_index_or (map length chains) e 0
length_at [] e = refl
length_at (ps ∷ chains) zero = refl
length_at (ps ∷ chains) (suc e) = length_at chains e

pub same_length : (t u : TableState) → shape_of u ≡ shape_of t → (e : ℕ) → length (chain_at u.chains e) ≡ length (chain_at t.chains e)
same_length t u same e = length_at u.chains e ∙ (ap (λ (s : TableShape). slice_index_or s.lengths e 0) same ∙ sym (length_at t.chains e))

same_owner : (t u : TableState) → shape_of u ≡ shape_of t → (e : ℕ) → owner u e ≡ owner t e
same_owner t u same e = ap (λ (s : TableShape). owner (record t { names = s.names; grows = s.grows }) e) same

back : (e i : ℕ) → i < most_fragments → ((e * most_fragments + i) / most_fragments ≡ e) × ((e * most_fragments + i) % most_fragments ≡ i)
back e i h = (omega (arith, h), omega (arith, h))

named : (t : TableState) (e i : ℕ) → i < most_fragments → place_of t (e * most_fragments + i) ≡ place_at t.chains e i
named t e i h = (let b = back e i h in ap (λ k. place_at t.chains k ((e * most_fragments + i) % most_fragments)) b.0 ∙ ap (λ k. place_at t.chains e k) b.1)

pub parts_compacted : (t u : TableState) (old new : Live) → AreChains t old → AreChains u new → shape_of u ≡ shape_of t
    → ((n : ℕ) → store_of bare (place_of u) new n ≡ store_of bare (place_of t) old n) → (all : Parts) → HoldParts t old all → HoldParts u new all
parts_compacted t u old new are be same store all hold = λ e i.
    at e i ∙ (hold e i ∙ ap (λ k. option_map (bare_fragment k) (slice_get (all e) i)) (sym (same_owner t u same e)))
  where
    at : (e i : ℕ) → found bare new (place_at u.chains e i) ≡ found bare old (place_at t.chains e i)
    at e i = elim (leb_tells (suc i) most_fragments) [
      | inl k ↦
          (let within = k.1 in let inside : i < most_fragments = omega (arith, within) in
          ap (found bare new) (sym (named u e i inside)) ∙ (store (e * most_fragments + i) ∙ ap (found bare old) (named t e i inside)))
      | inr k ↦
          (let past = k.1 in let a = are.short e in let b = be.short e in
          ap (found bare new) (slice_get_past (chain_at u.chains e) i (omega (arith, past, b)))
          ∙ sym (ap (found bare old) (slice_get_past (chain_at t.chains e) i (omega (arith, past, a)))))
    ]

-- ---- segments

pub segments_same : (r s : RegionState) → HoldsTheSame r s → HoldsSegments r s
segments_same r s h = record { most = h.most; groups = h.groups; pieces = h.pieces; held = h.held; guards = h.guards }

pub segments_kept : (r s : RegionState) → shape s ≡ shape r → HoldsSegments r s
segments_kept r s e = record {
  most = ap (λ (x : Shape). x.most) e;
  groups = ap (λ (x : Shape). length x.groups) e;
  pieces = ap (λ (x : Shape). pieces_in x.slots) e;
  held = ap (λ (x : Shape). count_by is_held x.slots) e;
  guards = λ g. ap (λ (x : Shape). (group_at x.groups g).guards) e;
}

pub segments_again : (r s q : RegionState) → HoldsSegments r s → HoldsSegments s q → HoldsSegments r q
segments_again r s q a b = record {
  most = b.most ∙ a.most;
  groups = b.groups ∙ a.groups;
  pieces = b.pieces ∙ a.pieces;
  held = b.held ∙ a.held;
  guards = λ g. b.guards g ∙ a.guards g;
}

pub free_kept : (r s : RegionState) → shape s ≡ shape r → free_count s ≡ free_count r
free_kept r s e = ap (λ (x : Shape). count_by is_free x.slots) e
