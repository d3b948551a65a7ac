-- A row is moved, and the tables stand for the store of all rows.
use Rattle.std.proofs.Common.{◌≡◌, ◌≢◌, ℕ, inl, inr, cond, Some, None, refl, sym, ap, subst, ◌∙◌, arith}
use Rattle.std.specs.Prelude.{nat_lt, slice_get, slice_set, IsSome, option_map}
use Rattle.std.proofs.lemmas.Bool.{cases_eq}
use Rattle.std.proofs.lemmas.Bool.Decides.{leb_tells}
use Rattle.rows.specs.Row.{Row}
use Rattle.common_lemmas.specs.Lists.{times}
use Rattle.regions.specs.Contents.{Item}
use Rattle.regions.specs.Stores.{Live, StandsFor, store_of, found, less, renamed}
use Rattle.regions.specs.declared.place.Place.{Place}
use Rattle.place_lemmas.proofs.Places.{less_here, less_past, renamed_here, renamed_past}
use Rattle.row_cache.specs.Links.{bare}
use Rattle.row_cache.specs.inside.Tables.{IsRowOf, TableState, AreTablesOf, IsListed, ReplacesRow, place_of}
use Rattle.row_cache.proofs.Numbers.{listed_below}
use Rattle.row_cache.proofs.States.{row_is, some_same, some_none, same_number, got_set, got_past_set}

-- ---- the places of names

pub listed_place : (t : TableState) (n : ℕ) → IsListed t n → place_of t n ≡ slice_get t.places n
listed_place t n h = elim (leb_tells 1 (times n t.recency)) [ inl k ↦ ap (λ b. cond b (slice_get t.places n) None) k.0 | inr k ↦ absurd (let l = k.1 in omega (arith, l, h)) ]

place_listed : (t : TableState) (n : ℕ) (p : Place) → place_of t n ≡ Some p → IsListed t n
place_listed t n p e = elim (leb_tells 1 (times n t.recency)) [ inl k ↦ k.1 | inr k ↦ some_none e (ap (λ b. cond b (slice_get t.places n) None) k.0) ]

pub tables_stand : (t : TableState) (live : Live) → AreTablesOf t live → StandsFor bare (store_of bare (place_of t) live) (place_of t) live
tables_stand t live are =
    let at : (n : ℕ) (l : IsListed t n) → place_of t n ≡ Some (are.rows n l).place = λ n l. listed_place t n l ∙ (are.rows n l).placed in
    record {
      placed = λ n i e. elim (leb_tells 1 (times n t.recency)) [
        | inl k ↦ (let h = are.rows n k.1 in (h.place, at n k.1, sym (ap (found bare live) (at n k.1)) ∙ e))
        | inr k ↦ some_none e (ap (λ b. found bare live (cond b (slice_get t.places n) None)) k.0)
      ];
      known = λ n p e. (let l = place_listed t n p e in let h = are.rows n l in
          subst (λ o. IsSome (found bare live o)) (sym (at n l)) (subst (λ o. IsSome (option_map bare o)) (sym h.is_live) refl));
      apart = λ m n p em en. (let lm = place_listed t m p em in let ln = place_listed t n p en in
          same_number live t.places m n (are.rows m lm) (are.rows n ln) (some_same (at m lm) em ∙ sym (some_same (at n ln) en)));
      every = λ p i e. (let w = are.every p i e in let n = w.0 in let there : place_of t n ≡ Some p = listed_place t n w.1 ∙ w.2 in
          (n, there, ap (found bare live) there ∙ ap (option_map bare) e));
    }

-- ---- one row is moved

-- the row that is moved
pub record IsMoved (t : TableState) (live : Live) (from to : Place) (i : Item) : Type 0 where
  pub n : ℕ
  pub listed : IsListed t n
  pub was : slice_get t.places n ≡ Some from
  pub row : Row
  pub is_row : IsRowOf i n row
  pub replaces : ReplacesRow t n to row (less to live) (less from live)

pub row_moved : (t : TableState) (live : Live) (from to : Place) (i : Item) → AreTablesOf t (less to live) → from ≢ to → live from ≡ Some i → live to ≡ Some i → IsMoved t live from to i
row_moved t live from to i are apart here there =
    let at_from : less to live from ≡ Some i = less_past to from live (λ e. apart (sym e)) ∙ here in
    let w = are.every from i at_from in let n = w.0 in let h = are.rows n w.1 in
    let at : h.place ≡ from = some_same h.placed w.2 in
    let item : h.item ≡ i = some_same h.is_live (ap (less to live) at ∙ at_from) in
    record {
      n = n;
      listed = w.1;
      was = w.2;
      row = h.row;
      is_row = subst (λ (x : Item). IsRowOf x n h.row) item h.is_row;
      replaces = record {
        tables = are;
        item = h.item;
        is_row = h.is_row;
        from = from;
        was = w.2;
        replaces = record {
          absent = less_here to live;
          gone = less_here from live;
          here = less_past from to live apart ∙ (there ∙ ap (λ (x : Item). Some x) (sym item));
          others = λ q not_from not_to. less_past from q live (λ e. not_from (sym e)) ∙ sym (less_past to q live (λ e. not_to (sym e)));
        };
        key = ap (λ (r : Row). r.key) (row_is (less to live) t.places n h);
      };
    }

pub names_moved : (t : TableState) (live : Live) (from to : Place) (i : Item) (moved : IsMoved t live from to i) (m : ℕ)
    → cond (nat_lt 0 (times m t.recency)) (slice_get (slice_set t.places moved.n to) m) None ≡ option_map (renamed from to) (place_of t m)
names_moved t live from to i moved m = elim (leb_tells 1 (times m t.recency)) [
  | inl k ↦
      (let n = moved.n in let r = moved.replaces in let are = r.tables in
      ap (λ b. cond b (slice_get (slice_set t.places n to) m) None) k.0
      ∙ ((elim (cases_eq m n) [
        | inl e ↦
            subst (λ x. slice_get (slice_set t.places n to) x ≡ option_map (renamed from to) (slice_get t.places x)) (sym e)
            (got_set t.places n to (listed_below t are.numbers n moved.listed) ∙ sym (ap (option_map (renamed from to)) moved.was ∙ ap (λ x. Some x) (renamed_here from to)))
        | inr far ↦
            (let h = are.rows m k.1 in
            let hn = are.rows n moved.listed in
            let other : from ≢ h.place = λ e. far (same_number (less to live) t.places m n h hn (sym e ∙ sym (some_same hn.placed moved.was))) in
            got_past_set t.places n m to far ∙ (h.placed ∙ sym (ap (option_map (renamed from to)) h.placed ∙ ap (λ x. Some x) (renamed_past from to h.place other))))
      ]) ∙ ap (option_map (renamed from to)) (sym (listed_place t m k.1))))
  | inr k ↦ ap (λ b. cond b (slice_get (slice_set t.places moved.n to) m) None) k.0 ∙ sym (ap (λ b. option_map (renamed from to) (cond b (slice_get t.places m) None)) k.0)
]
