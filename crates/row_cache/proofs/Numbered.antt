-- The chain of the rows of numbers.
use Rattle.std.proofs.Common.{◌≡◌, ◌≢◌, ℕ, ◌<◌, ◌≤◌, inl, inr, List, [], ◌∷◌, ◌++◌, map, length, Some, None, refl, sym, ap, subst, ◌∙◌, arith}
use Rattle.std.specs.Prelude.{slice_get, slice_set}
use Rattle.std.specs.List.{last_or}
use Rattle.std.proofs.lemmas.Bool.{cases_eq}
use Rattle.std.proofs.lemmas.List.{get_or-set_other}
use Rattle.std.proofs.lemmas.Option.{get_or_from_slice_get}
use Rattle.common_lemmas.specs.Lists.{times, delete}
use Rattle.common_lemmas.proofs.Counts.{delete_here, delete_there, times_here}
use Rattle.rows.specs.Row.{Row}
use Rattle.row_bytes.specs.Rows.{number_in}
use Rattle.key_table.specs.declared.entries.Spot.{Spot}
use Rattle.regions.specs.Stores.{Live}
use Rattle.regions.specs.declared.place.Place.{Place}
use Rattle.row_cache.specs.Links.{Lacks}
use Rattle.row_cache.specs.declared.ends.Ends.{Ends}
use Rattle.row_cache.specs.inside.Tables.{AddsRow, AreNumbers, AreTablesOf, HoldsARow, IsLast, IsListed, ReplacesRow, TableState, next_number, placed}
use Rattle.row_cache.specs.inside.Chained.{IsAmong, IsChain, IsLinked, IsLinkedBut, place_in}
use Rattle.row_cache.proofs.Listed.{last_listed, listed_apart, listed_here, listed_later, times_append}
use Rattle.row_cache.proofs.Numbers.{listed_below, next_absent, once}
use Rattle.row_cache.proofs.States.{got_past_set, got_set, placed_here, placed_others, same_number, some_same, still_listed}

-- ---- lists of numbers

pub record IsSplit (n : ℕ) (ns : List ℕ) : Type 0 where
  pub xs : List ℕ
  pub ys : List ℕ
  pub whole : ns ≡ xs ++ n ∷ ys
  pub rest : delete n ns ≡ xs ++ ys

pub split_at : (n : ℕ) (ns : List ℕ) → 1 ≤ times n ns → IsSplit n ns
split_at n [] h = absurd (omega (arith, h))
split_at n (m ∷ ms) h = elim (cases_eq m n) [
  | inl e ↦ record { xs = []; ys = ms; whole = ap (λ (x : ℕ). x ∷ ms) e; rest = subst (λ x. delete n (x ∷ ms) ≡ ms) (sym e) (delete_here n ms) }
  | inr far ↦
      (let r = split_at n ms (listed_apart n m ms far h) in
      record {
        xs = m ∷ r.xs;
        ys = r.ys;
        whole = ap (λ (ks : List ℕ). m ∷ ks) r.whole;
        rest = delete_there n m ms far ∙ ap (λ (ks : List ℕ). m ∷ ks) r.rest;
      })
]

map_append : (f : ℕ → Place) (xs ys : List ℕ) → map f (xs ++ ys) ≡ map f xs ++ map f ys
map_append f [] ys = refl
map_append f (x ∷ xs) ys = ap (λ (ps : List Place). f x ∷ ps) (map_append f xs ys)

pub same_map : (f g : ℕ → Place) (ns : List ℕ) → ((n : ℕ) → 1 ≤ times n ns → f n ≡ g n) → map f ns ≡ map g ns
same_map f g [] h = refl
same_map f g (n ∷ ns) h =
    ap (λ (p : Place). p ∷ map f ns) (h n (listed_here n ns)) ∙ ap (λ (ps : List Place). g n ∷ ps) (same_map f g ns (λ m l. h m (listed_later m n ns l)))

-- ---- places of numbers

pub place_is : (places : List Place) (n : ℕ) (p : Place) → slice_get places n ≡ Some p → place_in places n ≡ p
place_is places n p h = get_or_from_slice_get places n p (record { segment = 0; at = 0 }) h

pub split_places : (places : List Place) (n : ℕ) (p : Place) (ns : List ℕ) (s : IsSplit n ns) → slice_get places n ≡ Some p
    → map (place_in places) ns ≡ map (place_in places) s.xs ++ p ∷ map (place_in places) s.ys
split_places places n p ns s here =
    let f = place_in places in
    ap (λ ks. map f ks) s.whole ∙ (map_append f s.xs (n ∷ s.ys) ∙ ap (λ (q : Place). map f s.xs ++ q ∷ map f s.ys) (place_is places n p here))

-- the chain, split at a row
pub chain_at : (places : List Place) (live : Live) (ends : Ends) (n : ℕ) (p : Place) (ns : List ℕ) → IsChain live ends (map (place_in places) ns) → (s : IsSplit n ns)
    → slice_get places n ≡ Some p → IsChain live ends (map (place_in places) s.xs ++ p ∷ map (place_in places) s.ys)
chain_at places live ends n p ns c s here =
    subst (IsChain live ends) (split_places places n p ns s here) c

pub among : (t : TableState) (live : Live) (n : ℕ) (p : Place) → IsLinked t live → IsListed t n → slice_get t.places n ≡ Some p → IsAmong p live t.ends
among t live n p c listed here =
    let s = split_at n t.recency listed in
    (map (place_in t.places) s.xs, map (place_in t.places) s.ys, chain_at t.places live t.ends n p t.recency c s here)

pub taken : (t : TableState) (old new : Live) (after : Ends) (n : ℕ) (p : Place) → IsLinked t old → IsListed t n → slice_get t.places n ≡ Some p
    → ((xs ys : List Place) → IsChain old t.ends (xs ++ p ∷ ys) → IsChain new after (xs ++ ys)) → IsChain new after (map (place_in t.places) (delete n t.recency))
taken t old new after n p c listed here take_out =
    let s = split_at n t.recency listed in let f = place_in t.places in
    subst (IsChain new after) (sym (map_append f s.xs s.ys) ∙ sym (ap (λ ks. map f ks) s.rest)) (take_out (map f s.xs) (map f s.ys) (chain_at t.places old t.ends n p t.recency c s here))

pub brought : (t : TableState) (old new : Live) (after : Ends) (n : ℕ) (p : Place) → IsLinked t old → IsListed t n → slice_get t.places n ≡ Some p
    → ((xs ys : List Place) → IsChain old t.ends (xs ++ p ∷ ys) → IsChain new after (p ∷ (xs ++ ys))) → IsChain new after (map (place_in t.places) (n ∷ delete n t.recency))
brought t old new after n p c listed here bring =
    let s = split_at n t.recency listed in let f = place_in t.places in
    subst (IsChain new after) (ap (λ (q : Place). q ∷ (map f s.xs ++ map f s.ys)) (sym (place_is t.places n p here))
    ∙ ap (λ (ps : List Place). f n ∷ ps) (sym (map_append f s.xs s.ys) ∙ sym (ap (λ ks. map f ks) s.rest)))
    (bring (map f s.xs) (map f s.ys) (chain_at t.places old t.ends n p t.recency c s here))

-- ---- other rows stand elsewhere

lack_by : (f : ℕ → Place) (p : Place) (ns : List ℕ) → ((m : ℕ) → 1 ≤ times m ns → f m ≢ p) → Lacks p (map f ns)
lack_by f p [] h = tt
lack_by f p (n ∷ ns) h = (h n (listed_here n ns), lack_by f p ns (λ m l. h m (listed_later m n ns l)))

pub others_lack : (t : TableState) (live : Live) (n : ℕ) (p : Place) → AreTablesOf t live → IsListed t n → slice_get t.places n ≡ Some p → Lacks p (map (place_in t.places) (delete n t.recency))
others_lack t live n p are listed here = lack_by (place_in t.places) p (delete n t.recency) (λ m l e.
    (let w = still_listed t n m are.numbers listed l in
    let hm = are.rows m w.0 in let hn = are.rows n listed in
    w.1 (same_number live t.places m n hm hn (sym (place_is t.places m hm.place hm.placed) ∙ (e ∙ some_same here hn.placed)))))

-- the places once one number has another
pub but_set : (t : TableState) (live : Live) (n : ℕ) (to : Place) → AreTablesOf t live → IsListed t n
    → map (place_in (slice_set t.places n to)) (delete n t.recency) ≡ map (place_in t.places) (delete n t.recency)
but_set t live n to are listed = same_map (place_in (slice_set t.places n to)) (place_in t.places) (delete n t.recency) (λ m l.
    (let w = still_listed t n m are.numbers listed l in let hm = are.rows m w.0 in
    place_is (slice_set t.places n to) m hm.place (got_past_set t.places n m to w.1 ∙ hm.placed) ∙ sym (place_is t.places m hm.place hm.placed)))

-- the last of the chain is the last of the numbers
last_map : (f : ℕ → Place) (n : ℕ) (ns : List ℕ) → (m : ℕ) × (last_or None (n ∷ ns) ≡ Some m) × (last_or None (map f (n ∷ ns)) ≡ Some (f m))
last_map f n [] = (n, refl, refl)
last_map f n (k ∷ ks) = last_map f k ks

pub no_last : (f : ℕ → Place) (ns : List ℕ) → last_or None (map f ns) ≡ None → ns ≡ []
no_last f [] e = refl
no_last f (n ∷ ns) e = absurd (let m = last_map f n ns in let clash : Some (f m.0) ≡ None = sym m.2 ∙ e in cc)

pub some_last : (f : ℕ → Place) (ns : List ℕ) (p : Place) → last_or None (map f ns) ≡ Some p → (m : ℕ) × (last_or None ns ≡ Some m) × (f m ≡ p)
some_last f [] p e = absurd (let clash : None ≡ Some p = e in cc)
some_last f (n ∷ ns) p e = (let m = last_map f n ns in (m.0, m.1, some_same refl (sym m.2 ∙ e)))

-- ---- the last row

pub record IsLastRow (t : TableState) (live : Live) (p : Place) : Type 0 where
  pub n : ℕ
  pub last : IsLast n t.recency
  pub here : HoldsARow (live p)
  pub number : number_in here.item.content ≡ n

pub last_row_at : (t : TableState) (live : Live) (p : Place) → AreTablesOf t live → IsLinked t live → t.ends.last ≡ Some p → IsLastRow t live p
last_row_at t live p are c e =
    let m = some_last (place_in t.places) t.recency p (sym c.last ∙ e) in
    let h = are.rows m.0 (last_listed m.0 t.recency m.1) in
    let at : h.place ≡ p = sym (place_is t.places m.0 h.place h.placed) ∙ m.2 in
    record {
      n = m.0;
      last = m.1;
      here = record { item = h.item; is = sym (ap live at) ∙ h.is_live; number = m.0; row = h.row; is_row = h.is_row };
      number = h.is_row.number;
    }

-- ---- a row stands elsewhere, and comes in front

pub replaced_beside : (t : TableState) (n : ℕ) (to : Place) (row : Row) (old new : Live) (r : ReplacesRow t n to row old new) → IsListed t n → IsLinkedBut n t new
    → AreTablesOf (record t { places = slice_set t.places n to }) new
    → IsChain new t.ends (map (place_in (slice_set t.places n to)) (delete n t.recency)) × Lacks to (map (place_in (slice_set t.places n to)) (delete n t.recency))
replaced_beside t n to row old new r listed c are =
    let here = got_set t.places n to (listed_below t r.tables.numbers n listed) in (
      subst (IsChain new t.ends) (sym (but_set t old n to r.tables listed)) c,
      others_lack (record t { places = slice_set t.places n to }) new n to are listed here,
    )

pub replaced_front : (t : TableState) (n : ℕ) (to : Place) (row : Row) (old new after : Live) (ends : Ends) (r : ReplacesRow t n to row old new) → IsListed t n
    → IsChain after ends (to ∷ map (place_in (slice_set t.places n to)) (delete n t.recency)) → IsChain after ends (map (place_in (slice_set t.places n to)) (n ∷ delete n t.recency))
replaced_front t n to row old new after ends r listed c =
    let here = got_set t.places n to (listed_below t r.tables.numbers n listed) in
    subst (IsChain after ends) (ap (λ (q : Place). q ∷ map (place_in (slice_set t.places n to)) (delete n t.recency)) (sym (place_is (slice_set t.places n to) n to here))) c

-- ---- a new row comes in front

pub added_front : (t : TableState) (there : Spot) (place : Place) (row : Row) (old new after : Live) (ends : Ends) (r : AddsRow t there place row old new)
    → IsChain after ends (place ∷ map (place_in t.places) t.recency) → IsChain after ends (map (place_in (placed (next_number t) place t.places)) (next_number t ∷ t.recency))
added_front t there place row old new after ends r c =
    let n = next_number t in let all = placed n place t.places in let a = r.tables.numbers in
    let others : map (place_in t.places) t.recency ≡ map (place_in all) t.recency = same_map (place_in t.places) (place_in all) t.recency (λ m l.
    (let h = r.tables.rows m l in
    let far : m ≢ n = λ e. (let z = next_absent t a in let k : 1 ≤ times n t.recency = subst (λ x. 1 ≤ times x t.recency) e l in omega (arith, z, k)) in
    place_is t.places m h.place h.placed ∙ sym (place_is all m h.place (placed_others t.places n m place far (listed_below t a m l) ∙ h.placed)))) in
    subst (IsChain after ends)
    (ap (λ (q : Place). q ∷ map (place_in t.places) t.recency) (sym (place_is all n place (placed_here t place a))) ∙ ap (λ (ps : List Place). place_in all n ∷ ps) others) c

-- ---- a row is moved

not_before : (n m : ℕ) (xs ys : List ℕ) → ((k : ℕ) → times k (xs ++ n ∷ ys) ≤ 1) → 1 ≤ times m xs → m ≢ n
not_before n m xs ys once l e =
    let o = once n in let all = times_append n xs (n ∷ ys) in let here = times_here n ys in
    let k : 1 ≤ times n xs = subst (λ x. 1 ≤ times x xs) e l in omega (arith, o, all, here, k)

not_behind : (n m : ℕ) (xs ys : List ℕ) → ((k : ℕ) → times k (xs ++ n ∷ ys) ≤ 1) → 1 ≤ times m ys → m ≢ n
not_behind n m xs ys once l e =
    let o = once n in let all = times_append n xs (n ∷ ys) in let here = times_here n ys in
    let k : 1 ≤ times n ys = subst (λ x. 1 ≤ times x ys) e l in omega (arith, o, all, here, k)

set_other : (places : List Place) (n m : ℕ) (to : Place) → m ≢ n → place_in places m ≡ place_in (slice_set places n to) m
set_other places n m to far = sym (get_or-set_other places n m to (record { segment = 0; at = 0 }) far)

-- the places of the chain, once the row of a number stands elsewhere
pub set_chain : (t : TableState) (n : ℕ) (to : Place) (s : IsSplit n t.recency) → AreNumbers t → n < length t.places
    → map (place_in t.places) s.xs ++ to ∷ map (place_in t.places) s.ys ≡ map (place_in (slice_set t.places n to)) t.recency
set_chain t n to s a below =
    let f = place_in t.places in let g = place_in (slice_set t.places n to) in
    let single : (k : ℕ) → times k (s.xs ++ n ∷ s.ys) ≤ 1 = subst (λ (ns : List ℕ). (k : ℕ) → times k ns ≤ 1) s.whole (once t a) in
    let before : map f s.xs ≡ map g s.xs = same_map f g s.xs (λ m l. set_other t.places n m to (not_before n m s.xs s.ys single l)) in
    let behind : map f s.ys ≡ map g s.ys = same_map f g s.ys (λ m l. set_other t.places n m to (not_behind n m s.xs s.ys single l)) in
    let here : to ≡ g n = sym (place_is (slice_set t.places n to) n to (got_set t.places n to below)) in
    ap (λ (ps : List Place). ps ++ to ∷ map f s.ys) before
    ∙ (ap (λ (q : Place). map g s.xs ++ q ∷ map f s.ys) here
    ∙ (ap (λ (ps : List Place). map g s.xs ++ g n ∷ ps) behind ∙ (sym (map_append g s.xs (n ∷ s.ys)) ∙ sym (ap (λ (ns : List ℕ). map g ns) s.whole))))

pub moved_chain : (t : TableState) (old new : Live) (after : Ends) (n : ℕ) (from to : Place) → IsLinked t old → IsListed t n → slice_get t.places n ≡ Some from → AreNumbers t
    → ((xs ys : List Place) → IsChain old t.ends (xs ++ from ∷ ys) → IsChain new after (xs ++ to ∷ ys)) → IsChain new after (map (place_in (slice_set t.places n to)) t.recency)
moved_chain t old new after n from to c listed here a move =
    let s = split_at n t.recency listed in let f = place_in t.places in
    subst (IsChain new after) (set_chain t n to s a (listed_below t a n listed)) (move (map f s.xs) (map f s.ys) (chain_at t.places old t.ends n from t.recency c s here))
