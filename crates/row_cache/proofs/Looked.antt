-- What a key's row is among all rows, and where it stands.
use Rattle.std.proofs.Common.{◌≡◌, ℕ, zero, suc, ◌-◌, ◌≤◌, inl, inr, take, drop, replicate, get_or, arith, Bool, true, false, List, [], ◌∷◌, length, map, Option, Some, None, refl, sym, ap, subst, ◌∙◌}
use Rattle.std.proofs.lemmas.List.{take-map, length-map, drop-drop}
use Rattle.std.proofs.lemmas.List.Sums.{sum_by-cons}
use Rattle.std.proofs.lemmas.Bool.Decides.{eqb_tells}
use Rattle.std.specs.List.{last_or, sum}
use Rattle.std.specs.Prelude.{slice_get, IsSome, option_map}
use Rattle.rows.specs.Row.{Row, live, size, is_of_put}
use Rattle.row_bytes.specs.Rows.{IsRow, header, key_length_in, key_of_row, put_in, row_bytes, row_in, value_length_in, without_links}
use Rattle.row_bytes.specs.declared.links.Links.{Links}
use Rattle.common_lemmas.specs.Lists.{times, delete}
use Rattle.regions.specs.Segments.{RegionState, SegmentState, idle}
use Rattle.regions.specs.Counts.{live_total, live_in}
use Rattle.regions.specs.Contents.{Item, Standing, item_if_live, if_live, live_at, standing_at, standing_in}
use Rattle.regions.specs.Stores.{Live, store_of, found}
use Rattle.regions.specs.declared.place.Place.{Place}
use Rattle.row_cache.specs.Links.{bare}
use Rattle.row_cache.specs.Rows.{AreRelinked, row_at, rows_at, StandsAt}
use Rattle.row_cache.specs.inside.Tables.{TableState, AreTablesOf, IsListed, IsRowOf, HasRow, IsLast, place_of}
use Rattle.row_cache.specs.inside.Consistent.{IsCounted, rows_in, rows_with}
use Rattle.row_cache.proofs.Listed.{map_same, live_without, last_row, delete_last}
use Rattle.row_cache.proofs.Numbers.{once}
use Rattle.row_cache.proofs.States.{row_is, some_same}
use Rattle.row_cache.proofs.Moving.{listed_place}
use Rattle.row_cache.proofs.Relinked.{relinked_total}
use Rattle.row_cache.proofs.Caches.{relinked_rows}

abbrev none_of_type : (A : Type 0) → Option A
none_of_type A = None

-- ---- where it stands

live_standing : (live : Bool) (item i : Item) → if_live live item ≡ Some i → item ≡ i
live_standing false item i e = absurd (let clash : None ≡ Some i = e in cc)
live_standing true item i e = (let s : Some item ≡ Some i = e in cc)

standing_live : (o : Option Standing) (i : Item) → item_if_live o ≡ Some i → (s : Standing) × (o ≡ Some s) × (s.item ≡ i)
standing_live None i e = absurd (let clash : None ≡ Some i = e in cc)
standing_live (Some s) i e = (s, refl, live_standing s.live s.item i e)

pub is_some : {A : Type 0} (o : Option A) (x : A) → o ≡ Some x → IsSome o
is_some {A} o x e = subst (λ q. IsSome q) (sym e) refl

pub row_stands : (r : RegionState) (places : List Place) (n : ℕ) (h : HasRow (live_at r) places n) (p : Place) → slice_get places n ≡ Some p
    → StandsAt r p (row_at (live_at r) places n) × IsSome (live_at r p)
row_stands r places n h p there =
    let at : h.place ≡ p = some_same h.placed there in
    let is : live_at r p ≡ Some h.item = sym (ap (live_at r) at) ∙ h.is_live in
    let s = standing_live (standing_at r p) h.item is in (
      (
        s.0,
        s.1,
        subst (λ (i : Item). IsRow i.content) (sym s.2) (n, h.row, h.is_row.holds),
        ap (λ (i : Item). row_in i.content) s.2 ∙ (h.is_row.read ∙ sym (row_is (live_at r) places n h)),
      ),
      is_some (live_at r p) h.item is,
    )

-- ---- rows that were moved

-- a row is read without its links
abbrev with_value : List ℕ → List ℕ → Row
with_value content value = record { key = key_of_row content; value = value; number = put_in content }

abbrev behind_key : List ℕ → List ℕ
behind_key content = take (value_length_in content) (drop (key_length_in content) (drop header content))

read_behind : (content : List ℕ) → row_in content ≡ with_value content (behind_key content)
read_behind content = ap (λ bytes. with_value content (take (value_length_in content) bytes)) (sym (drop-drop (key_length_in content) header content))

links_behind : (number : ℕ) (links : Links) (row : Row) → with_value (without_links (row_bytes number links row)) (behind_key (without_links (row_bytes number links row)))
    ≡ with_value (row_bytes number links row) (behind_key (row_bytes number links row))
links_behind number links row = refl

links_unread : (number : ℕ) (links : Links) (row : Row) → row_in (without_links (row_bytes number links row)) ≡ row_in (row_bytes number links row)
links_unread number links row =
    let bytes = row_bytes number links row in read_behind (without_links bytes) ∙ (links_behind number links row ∙ sym (read_behind bytes))

pub bare_read : (item : Item) (n : ℕ) (row : Row) → IsRowOf item n row → row_in (without_links item.content) ≡ row
bare_read item n row is =
    let h = is.holds in ap (λ bytes. row_in (without_links bytes)) h.bytes ∙ (links_unread n h.links row ∙ (sym (ap row_in h.bytes) ∙ is.read))

pub stored_item : (t : TableState) (l : Live) (are : AreTablesOf t l) (n : ℕ) (listed : IsListed t n) → store_of bare (place_of t) l n ≡ Some (bare (are.rows n listed).item)
stored_item t l are n listed =
    let h = are.rows n listed in
    ap (found bare l) (listed_place t n listed ∙ h.placed) ∙ ap (option_map bare) h.is_live

pub rows_moved : (t u : TableState) (l m : Live) → AreTablesOf t l → AreTablesOf u m → u.recency ≡ t.recency
    → ((n : ℕ) → store_of bare (place_of u) m n ≡ store_of bare (place_of t) l n)
    → rows_at m u.places u.recency ≡ rows_at l t.places t.recency
rows_moved t u l m are now recency same =
    ap (λ ns. rows_at m u.places ns) recency
    ∙ map_same (row_at m u.places) (row_at l t.places) t.recency (λ n listed.
    (let k : IsListed u n = subst (λ ns. 1 ≤ times n ns) (sym recency) listed in
    let a = are.rows n listed in let b = now.rows n k in
    let items : bare b.item ≡ bare a.item = some_same (stored_item u m now n k) (same n ∙ stored_item t l are n listed) in
    row_is m u.places n b ∙ (sym (bare_read b.item n b.row b.is_row) ∙ (ap (λ (i : Item). row_in i.content) items ∙ (bare_read a.item n a.row a.is_row ∙ sym (row_is l t.places n a))))))

pub consistent_moved : (t u : TableState) (r s : RegionState) → IsCounted t r → AreTablesOf u (live_at s) → rows_in u s ≡ rows_in t r → live_total s ≡ live_total r → IsCounted u s
consistent_moved t u r s c tables rows total = record { tables = tables; sizes = ap live rows ∙ (c.sizes ∙ sym total) }

-- ---- a row is used

pub rows_touched : (t u : TableState) (r s : RegionState) (n : ℕ) → AreRelinked r s → u.recency ≡ n ∷ delete n t.recency → u.places ≡ t.places
    → rows_in u s ≡ row_at (live_at r) t.places n ∷ rows_with t r (delete n t.recency)
rows_touched t u r s n a recency places =
    ap (λ ns. rows_at (live_at s) u.places ns) recency
    ∙ (ap (λ (ps : List Place). rows_at (live_at s) ps (n ∷ delete n t.recency)) places ∙ relinked_rows r s t.places (n ∷ delete n t.recency) a)

pub consistent_touched : (t u : TableState) (r s : RegionState) (n : ℕ) → IsCounted t r → AreTablesOf u (live_at s) → IsListed t n → AreRelinked r s
    → u.recency ≡ n ∷ delete n t.recency → u.places ≡ t.places → IsCounted u s
consistent_touched t u r s n c tables listed a recency places =
    let row = row_at (live_at r) t.places in
    let first = sum_by-cons (λ (x : Row). size x.key.bytes x.value) (row n) (rows_at (live_at r) t.places (delete n t.recency)) in
    let whole = live_without row n t.recency listed in let sizes = c.sizes in
    let now : live (rows_in u s) ≡ live (row n ∷ rows_with t r (delete n t.recency)) = ap live (rows_touched t u r s n a recency places) in
    let total = relinked_total r s a in
    record { tables = tables; sizes = omega (arith, first, whole, sizes, now, total) }

-- ---- the row that was used longest ago

same_put : (row : Row) (put : ℕ) → put ≡ row.number → is_of_put put (Some row) ≡ true
same_put row put e = elim (eqb_tells row.number put) [ inl h ↦ h.0 | inr h ↦ absurd (h.1 (sym e)) ]

pub last_put : (t : TableState) (r : RegionState) (n : ℕ) (put : ℕ) → IsLast n t.recency → put ≡ (row_at (live_at r) t.places n).number → is_of_put put (last_or None (rows_in t r)) ≡ true
last_put t r n put last is = ap (is_of_put put) (last_row (row_at (live_at r) t.places) n t.recency last) ∙ same_put (row_at (live_at r) t.places n) put is

pub rows_before_last : (t : TableState) (r : RegionState) (n : ℕ) → AreTablesOf t (live_at r) → IsLast n t.recency
    → rows_with t r (delete n t.recency) ≡ take (length (rows_in t r) - 1) (rows_in t r)
rows_before_last t r n are last =
    let row = row_at (live_at r) t.places in
    ap (λ ns. rows_with t r ns) (delete_last n t.recency (once t are.numbers) last)
    ∙ (sym (take-map row (length t.recency - 1) t.recency) ∙ ap (λ k. take (k - 1) (rows_in t r)) (sym (length-map t.recency row)))

-- ---- no row

none_there : {A : Type 0} (n k : ℕ) → get_or (replicate n (none_of_type A)) k None ≡ None
none_there {A} zero k = refl
none_there {A} (suc n) zero = refl
none_there {A} (suc n) (suc k) = none_there {A = A} n k

none_live : (n : ℕ) → sum (map live_in (replicate n (none_of_type SegmentState))) ≡ 0
none_live zero = refl
none_live (suc n) = let e = sum_by-cons (λ (x : ℕ). x) 0 (map live_in (replicate n (none_of_type SegmentState))) in let ih = none_live n in omega (arith, e, ih)

pub none_new : (r : RegionState) (n groups : ℕ) → r ≡ record { most = n; groups = replicate groups idle; segments = replicate n None } → (p : Place) → live_at r p ≡ None
none_new r n groups is p = ap (λ (x : RegionState). live_at x p) is ∙ ap (λ s. item_if_live (standing_in s p.at)) (none_there {A = SegmentState} n p.segment)

pub consistent_new : (t : TableState) (r : RegionState) (n groups : ℕ) → r ≡ record { most = n; groups = replicate groups idle; segments = replicate n None } → t.recency ≡ []
    → ((live : Live) → ((p : Place) → live p ≡ None) → AreTablesOf t live) → IsCounted t r
consistent_new t r n groups is none tables =
    let total : live_total r ≡ 0 = ap live_total is ∙ none_live n in
    record {
      tables = tables (live_at r) (none_new r n groups is);
      sizes = ap (λ ns. live (rows_with t r ns)) none ∙ sym total;
    }
