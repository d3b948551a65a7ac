-- What holds of a cache, where a row comes, goes, or is another.
use Rattle.std.proofs.Common.{◌≡◌, ℕ, ◌+◌, ◌≤◌, inl, List, [], ◌∷◌, length, map, Option, Some, None, refl, sym, ap, subst, ◌∙◌, arith}
use Rattle.std.specs.Prelude.{slice_get, slice_set, option_map, IfSome}
use Rattle.std.proofs.lemmas.List.{length-map}
use Rattle.std.proofs.lemmas.List.Sums.{sum_by-cons}
use Rattle.rows.specs.Row.{Row, size, live}
use Rattle.common_lemmas.specs.Lists.{times, delete}
use Rattle.key_table.specs.declared.entries.Spot.{Spot}
use Rattle.regions.specs.Segments.{RegionState, with_guards}
use Rattle.regions.specs.Shapes.{group_count}
use Rattle.regions.specs.Counts.{live_total}
use Rattle.regions.specs.Contents.{Item, Standing, Keeps, item_if_live, live_at, standing_at, size_of}
use Rattle.regions.specs.Stores.{Live}
use Rattle.regions.specs.declared.place.Place.{Place}
use Rattle.row_bytes.specs.Rows.{row_in}
use Rattle.row_cache.specs.Links.{follow}
use Rattle.row_cache.specs.Rows.{AreGrouped, AreOfGroups, AreRelinked, content_at, row_at, row_there, rows_at, Stay}
use Rattle.row_cache.specs.inside.Tables.{TableState, AreTablesOf, IsListed, IsRowOf, Drops, HoldsARow, PlacesRow, SwapsRow, AddsRow, ReplacesRow, next_number, placed}
use Rattle.row_cache.specs.inside.Chained.{IsLinked, place_in}
use Rattle.row_cache.specs.inside.Consistent.{IsConsistent, IsCounted, rows_in, rows_with}
use Rattle.row_cache.proofs.Joined.{followed}
use Rattle.row_cache.proofs.Numbered.{place_is}
use Rattle.row_cache.proofs.Relinked.{relinked_lives, relinked_total, same_rows}
use Rattle.row_cache.proofs.Listed.{listed_here, listed_later, map_same, live_without}
use Rattle.row_cache.proofs.States.{row_is, some_none, other_stays, still_listed, replaced_rows, replaced_others, added_here, added_others}

-- ---- where no object changes

same_live : (r s : RegionState) → Keeps r s → live_at s ≡ live_at r
same_live r s keeps = λ i p. item_if_live (keeps p i)

pub consistent_kept : (t : TableState) (r s : RegionState) → IsCounted t r → Keeps r s → live_total s ≡ live_total r → IsCounted t s
consistent_kept t r s c keeps total =
    let same = same_live r s keeps in
    record {
      tables = subst (λ l. AreTablesOf t l) (sym same) c.tables;
      sizes = ap (λ l. live (rows_at l t.places t.recency)) same ∙ (c.sizes ∙ sym total);
    }

pub keeps_same : (r s : RegionState) (g guards : ℕ) → s ≡ with_guards r g guards → Keeps r s
keeps_same r s g guards e = λ p. ap (λ (x : RegionState). standing_at x p) e

pub stays_kept : (r s : RegionState) → Keeps r s → Stay r s
stays_kept r s keeps = λ p i e. (i, ap (option_map (λ (x : Standing). x.item)) (keeps p) ∙ e, inl refl)

-- ---- the sizes of rows

pub of_some : {A : Type 0} (P : A → Type 0) (o : Option A) (x : A) → IfSome o P → o ≡ Some x → P x
of_some {A} P o x h e = subst (λ q. IfSome q P) e h

size_small : (item : Item) (n : ℕ) (row : Row) → IsRowOf item n row → size row.key.bytes row.value ≤ 13000
size_small item n row is = (let k = is.holds.storable.short_key in let v = is.holds.storable.short_value in omega (arith, k, v))

pub item_small : (item : Item) (n : ℕ) (row : Row) → IsRowOf item n row → size_of item ≤ 13000
item_small item n row is = (let s = size_small item n row is in let e = is.size in omega (arith, s, e))

-- ---- a row comes

pub rows_added : (t u : TableState) (there : Spot) (place : Place) (row : Row) (old new : Live) (r : AddsRow t there place row old new)
    → u.recency ≡ next_number t ∷ t.recency → u.places ≡ placed (next_number t) place t.places
    → rows_at new u.places u.recency ≡ row ∷ rows_at old t.places t.recency
rows_added t u there place row old new r recency places =
    let ps = placed (next_number t) place t.places in
    ap (λ ns. rows_at new u.places ns) recency
    ∙ (ap (λ (qs : List Place). rows_at new qs (next_number t ∷ t.recency)) places
    ∙ (ap (λ (x : Row). x ∷ rows_at new ps t.recency) (added_here t there place row old new r).1
    ∙ ap (λ (xs : List Row). row ∷ xs) (map_same (row_at new ps) (row_at old t.places) t.recency (λ m l. (added_others t there place row old new r m l).1))))

pub consistent_added : (t u : TableState) (r s : RegionState) (row : Row) → IsCounted t r → AreTablesOf u (live_at s)
    → rows_in u s ≡ row ∷ rows_in t r → live_total s ≡ live_total r + size row.key.bytes row.value → IsCounted u s
consistent_added t u r s row c tables rows total =
    let sizes = c.sizes in
    let all = sum_by-cons (λ (x : Row). size x.key.bytes x.value) row (rows_in t r) in
    let now : live (rows_in u s) ≡ live (row ∷ rows_in t r) = ap live rows in
    record { tables = tables; sizes = omega (arith, now, all, sizes, total) }

-- ---- a row stands elsewhere, as another of its key

pub row_swapped : (old middle new : Live) (from to : Place) (n : ℕ) (row : Row) → HoldsARow (old from) → PlacesRow to n row old middle → Drops from middle new → SwapsRow from to n row old new
row_swapped old middle new from to n row here places drops =
    let adds = places.adds in
    record {
      item = places.item;
      is_row = places.is_row;
      replaces = record {
        absent = adds.absent;
        gone = drops.here;
        here = drops.others to (λ e. some_none here.is (sym (ap old e) ∙ adds.absent)) ∙ adds.here;
        others = λ q not_from not_to. drops.others q not_from ∙ adds.others q not_to;
      };
    }

-- a row stays where another is placed
pub row_stays : (old new : Live) (p q : Place) (n : ℕ) (row : Row) → PlacesRow p n row old new → HoldsARow (old q) → new q ≡ old q
row_stays old new p q n row places here = places.adds.others q (λ e. some_none here.is (ap old e ∙ places.adds.absent))

pub rows_replaced : (t u : TableState) (n : ℕ) (to : Place) (row : Row) (old new : Live) (r : ReplacesRow t n to row old new) → IsListed t n
    → u.recency ≡ n ∷ delete n t.recency → u.places ≡ slice_set t.places n to
    → rows_at new u.places u.recency ≡ row ∷ rows_at old t.places (delete n t.recency)
rows_replaced t u n to row old new r listed recency places =
    let ps = slice_set t.places n to in
    ap (λ ns. rows_at new u.places ns) recency
    ∙ (ap (λ (qs : List Place). rows_at new qs (n ∷ delete n t.recency)) places
    ∙ (ap (λ (x : Row). x ∷ rows_at new ps (delete n t.recency)) (replaced_rows t n to row old new r listed).1
    ∙ ap (λ (xs : List Row). row ∷ xs) (map_same (row_at new ps) (row_at old t.places) (delete n t.recency)
    (λ m l. (let w = still_listed t n m r.tables.numbers listed l in (replaced_others t n to row old new r listed m w.0 w.1).1)))))

-- the sizes of the rows that are left, and of the one that was
pub sizes_without : (t : TableState) (r : RegionState) (n : ℕ) (c : IsCounted t r) (listed : IsListed t n)
    → live_total r ≡ size_of (c.tables.rows n listed).item + live (rows_with t r (delete n t.recency))
sizes_without t r n c listed =
    let h = c.tables.rows n listed in let row = row_at (live_at r) t.places in
    let whole = live_without row n t.recency listed in
    let is : size (row n).key.bytes (row n).value ≡ size_of h.item = ap (λ (x : Row). size x.key.bytes x.value) (row_is (live_at r) t.places n h) ∙ sym h.is_row.size in
    let sizes = c.sizes in
    omega (arith, whole, is, sizes)

pub consistent_replaced : (t u : TableState) (r s : RegionState) (n : ℕ) (row : Row) (c : IsCounted t r) (listed : IsListed t n) → AreTablesOf u (live_at s)
    → rows_in u s ≡ row ∷ rows_with t r (delete n t.recency) → live_total s + size_of (c.tables.rows n listed).item ≡ live_total r + size row.key.bytes row.value → IsCounted u s
consistent_replaced t u r s n row c listed tables rows total =
    let old = sizes_without t r n c listed in
    let all = sum_by-cons (λ (x : Row). size x.key.bytes x.value) row (rows_with t r (delete n t.recency)) in
    let now : live (rows_in u s) ≡ live (row ∷ rows_with t r (delete n t.recency)) = ap live rows in
    record { tables = tables; sizes = omega (arith, now, all, old, total) }

-- ---- a row goes

pub rows_dropped : (t u : TableState) (r s : RegionState) (n : ℕ) (p : Place) → AreTablesOf t (live_at r) → IsListed t n → slice_get t.places n ≡ Some p → Drops p (live_at r) (live_at s)
    → u.recency ≡ delete n t.recency → u.places ≡ t.places → rows_in u s ≡ rows_with t r (delete n t.recency)
rows_dropped t u r s n p are listed here drops recency places =
    ap (λ ns. rows_at (live_at s) u.places ns) recency
    ∙ (ap (λ (qs : List Place). rows_at (live_at s) qs (delete n t.recency)) places
    ∙ map_same (row_at (live_at s) t.places) (row_at (live_at r) t.places) (delete n t.recency)
    (λ m l. (let w = still_listed t n m are.numbers listed l in (other_stays t (live_at r) (live_at s) n p are listed here drops m w.0 w.1).1)))

pub consistent_dropped : (t u : TableState) (r s : RegionState) (n : ℕ) (c : IsCounted t r) (listed : IsListed t n) → AreTablesOf u (live_at s)
    → rows_in u s ≡ rows_with t r (delete n t.recency) → live_total s + size_of (c.tables.rows n listed).item ≡ live_total r → IsCounted u s
consistent_dropped t u r s n c listed tables rows total =
    let old = sizes_without t r n c listed in
    let now : live (rows_in u s) ≡ live (rows_with t r (delete n t.recency)) = ap live rows in
    record { tables = tables; sizes = omega (arith, now, old, total) }

-- ---- every row went

mapped_none : (row : ℕ → Row) (ns : List ℕ) → map row ns ≡ [] → ns ≡ []
mapped_none row [] e = refl
mapped_none row (n ∷ ns) e = absurd (let clash : row n ∷ map row ns ≡ [] = e in cc)

pub no_numbers : (t : TableState) (r : RegionState) → rows_in t r ≡ [] → t.recency ≡ []
no_numbers t r e = mapped_none (row_at (live_at r) t.places) t.recency e

-- ---- other links

pub relinked_rows : (r s : RegionState) (places : List Place) (ns : List ℕ) → AreRelinked r s → rows_at (live_at s) places ns ≡ rows_at (live_at r) places ns
relinked_rows r s places ns a = ap (λ (f : ℕ → Row). map f ns) (same_rows (live_at r) (live_at s) places (relinked_lives r s a))

pub counted_relinked : (t u : TableState) (r s : RegionState) → IsCounted t r → AreRelinked r s → AreTablesOf u (live_at s) → u.recency ≡ t.recency → u.places ≡ t.places
    → IsCounted u s
counted_relinked t u r s c a tables recency places =
    let total = relinked_total r s a in
    record {
      tables = tables;
      sizes = ap live (ap (λ ns. rows_at (live_at s) u.places ns) recency ∙ (ap (λ (ps : List Place). rows_at (live_at s) ps t.recency) places ∙ relinked_rows r s t.places t.recency a)) ∙ (c.sizes ∙ sym total);
    }

pub rows_relinked : (t u : TableState) (r s : RegionState) (ns : List ℕ) → AreRelinked r s → u.places ≡ t.places → rows_with u s ns ≡ rows_with t r ns
rows_relinked t u r s ns a places = ap (λ (ps : List Place). rows_at (live_at s) ps ns) places ∙ relinked_rows r s t.places ns a

-- ---- what a reader sees

same_reads : (f : Place → Row) (g : ℕ → Place) (h : ℕ → Row) (ns : List ℕ) → ((n : ℕ) → 1 ≤ times n ns → f (g n) ≡ h n) → map f (map g ns) ≡ map h ns
same_reads f g h [] same = refl
same_reads f g h (n ∷ ns) same =
    ap (λ (x : Row). x ∷ map f (map g ns)) (same n (listed_here n ns)) ∙ ap (λ (xs : List Row). h n ∷ xs) (same_reads f g h ns (λ m l. same m (listed_later m n ns l)))

pub places_read : (t : TableState) (r : RegionState) → IsConsistent t r → follow (length t.places) (live_at r) t.ends.front ≡ map (place_in t.places) t.recency
places_read t r c =
    let l = live_at r in let ps = map (place_in t.places) t.recency in
    let count = c.counted.tables.numbers.count in
    let long : length ps ≡ length t.recency = length-map t.recency (place_in t.places) in
    ap (λ o. follow (length t.places) l o) c.chain.front ∙ followed (length t.places) l None ps (omega (arith, count, long)) c.chain.linked c.chain.room

pub rows_read : (t : TableState) (r : RegionState) → IsConsistent t r → map (row_there (live_at r)) (follow (length t.places) (live_at r) t.ends.front) ≡ rows_in t r
rows_read t r c =
    let l = live_at r in
    ap (map (row_there l)) (places_read t r c)
    ∙ same_reads (row_there l) (place_in t.places) (row_at l t.places) t.recency (λ n listed.
    (let h = c.counted.tables.rows n listed in
    ap (row_there l) (place_is t.places n h.place h.placed) ∙ sym (ap (λ o. row_in (content_at l o)) h.placed)))

-- the live bytes of the segments are those of the rows
pub live_read : (t : TableState) (r : RegionState) → IsConsistent t r → live (map (row_there (live_at r)) (follow (length t.places) (live_at r) t.ends.front)) ≡ live_total r
live_read t r c = ap live (rows_read t r c) ∙ c.counted.sizes

-- the same where no object changes
pub kept_reads : (r s : RegionState) (k : ℕ) (front : Option Place) → Keeps r s
    → map (row_there (live_at s)) (follow k (live_at s) front) ≡ map (row_there (live_at r)) (follow k (live_at r) front)
kept_reads r s k front keeps = ap (λ (l : Live). map (row_there l) (follow k l front)) (same_live r s keeps)

pub kept_chain : (t : TableState) (r s : RegionState) → IsLinked t (live_at r) → Keeps r s → IsLinked t (live_at s)
kept_chain t r s c keeps = subst (λ (l : Live). IsLinked t l) (sym (same_live r s keeps)) c

pub kept_grouped : (r s : RegionState) → Keeps r s → group_count s ≡ group_count r → AreGrouped r → AreGrouped s
kept_grouped r s keeps groups all =
    subst (λ (l : Live). AreOfGroups (group_count s) l) (sym (same_live r s keeps)) (subst (λ n. AreOfGroups n (live_at r)) (sym groups) all)

pub cache_kept : (t : TableState) (r s : RegionState) → IsConsistent t r → Keeps r s → live_total s ≡ live_total r → group_count s ≡ group_count r → IsConsistent t s
cache_kept t r s c keeps total groups = record {
  some = subst (λ n. 1 ≤ n) (sym groups) c.some;
  counted = consistent_kept t r s c.counted keeps total;
  chain = kept_chain t r s c.chain keeps;
  grouped = kept_grouped r s keeps groups c.grouped;
}
