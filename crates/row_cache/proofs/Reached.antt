-- The rows that the links meet are those of the table of places.
use Rattle.std.proofs.Common.{◌≡◌, ℕ, zero, suc, ◌≤◌, List, [], ◌∷◌, map, inl, inr, true, false, Option, Some, None, refl, sym, ap, subst, ◌∙◌, arith}
use Rattle.std.specs.Prelude.{Contains, IsSome}
use Rattle.std.specs.List.{last_or}
use Rattle.std.proofs.lemmas.Bool.{cases_eq}
use Rattle.common_lemmas.specs.Lists.{times}
use Rattle.rows.specs.Row.{Row}
use Rattle.row_bytes.specs.Rows.{HoldsRow}
use Rattle.regions.specs.Segments.{RegionState}
use Rattle.regions.specs.Contents.{Item, live_at}
use Rattle.regions.specs.declared.place.Place.{Place}
use Rattle.row_cache.specs.Links.{AreApart, AreLinked, first_or}
use Rattle.row_cache.specs.Rows.{CacheState, AreMetOnce, HasRowAt, IsLinkedThrough}
use Rattle.row_cache.specs.inside.Chained.{place_in}
use Rattle.row_cache.specs.inside.Consistent.{IsConsistent}
use Rattle.row_cache.specs.inside.Tables.{HasRow, TableState}
use Rattle.row_cache.proofs.Caches.{places_read}
use Rattle.row_cache.proofs.Listed.{listed_apart, listed_here, listed_later}
use Rattle.row_cache.proofs.Numbered.{place_is}

-- ---- lists

contains_later : (p q : Place) (ps : List Place) → Contains ps p → Contains (q ∷ ps) p
contains_later p q ps h = (suc h.0, omega (arith, h.1), h.2)

mapped : (f : ℕ → Place) (ns : List ℕ) (p : Place) → Contains (map f ns) p → (n : ℕ) × (1 ≤ times n ns) × (f n ≡ p)
mapped f [] p h = absurd (let low = h.1 in omega (arith, low))
mapped f (n ∷ ns) p (zero, inside, is) = (n, listed_here n ns, is)
mapped f (n ∷ ns) p (suc k, inside, is) = (let w = mapped f ns p (k, omega (arith, inside), is) in (w.0, listed_later w.0 n ns w.1, w.2))

maps : (f : ℕ → Place) (n : ℕ) (ns : List ℕ) → 1 ≤ times n ns → Contains (map f ns) (f n)
maps f n [] h = absurd (omega (arith, h))
maps f n (m ∷ ms) h = elim (cases_eq m n) [
  | inl e ↦ (0, omega arith, ap f e)
  | inr far ↦ contains_later (f n) (f m) (map f ms) (maps f n ms (listed_apart n m ms far h))
]

-- ---- a cache

abbrev pub seen : TableState → RegionState → CacheState
seen t r = record { room = t.room; front = t.ends.front; last = t.ends.last; places = t.places; region = r }

pub linked_through : (t : TableState) (r : RegionState) → IsConsistent t r → IsLinkedThrough (seen t r)
linked_through t r c =
    let e = sym (places_read t r c) in
    record {
      front = c.chain.front ∙ ap (first_or None) e;
      last = c.chain.last ∙ ap (last_or None) e;
      links = subst (λ (ps : List Place). AreLinked (live_at r) None ps None) e c.chain.linked;
    }

row_of_number : (t : TableState) (r : RegionState) (n : ℕ) (p : Place) → HasRow (live_at r) t.places n → place_in t.places n ≡ p → HasRowAt (seen t r) n p
row_of_number t r n p h is =
    let same : h.place ≡ p = sym (place_is t.places n h.place h.placed) ∙ is in
    record {
      placed = h.placed ∙ ap (λ q. Some q) same;
      item = h.item;
      stands = sym (ap (live_at r) same) ∙ h.is_live;
      kind = h.is_row.kind;
      holds = subst (λ (row : Row). HoldsRow h.item.content n row) (sym h.is_row.read) h.is_row.holds;
    }

live_there : (o : Option Item) → IsSome o → (item : Item) × (o ≡ Some item)
live_there None h = absurd (let clash : false ≡ true = h in cc)
live_there (Some item) h = (item, refl)

pub met_once : (t : TableState) (r : RegionState) → IsConsistent t r → AreMetOnce (seen t r)
met_once t r c =
    let read = places_read t r c in let e = sym read in let are = c.counted.tables in
    record {
      once = subst (λ (ps : List Place). AreApart ps) e c.chain.apart;
      rows = λ p h. (let w = mapped (place_in t.places) t.recency p (subst (λ (ps : List Place). Contains ps p) read h) in (w.0, row_of_number t r w.0 p (are.rows w.0 w.1) w.2));
      every = λ p h.
          (let i = live_there (live_at r p) h in let w = are.every p i.0 i.1 in
          subst (λ (ps : List Place). Contains ps p) e
          (subst (λ (q : Place). Contains (map (place_in t.places) t.recency) q) (place_is t.places w.0 p w.2) (maps (place_in t.places) w.0 t.recency w.1)));
    }
