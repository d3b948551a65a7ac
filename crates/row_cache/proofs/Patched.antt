-- What holds of a cache where bytes of a row's value were written over.
use Rattle.std.proofs.Common.{◌≡◌, ◌≢◌, ℕ, ◌+◌, ◌*◌, ◌/◌, ◌%◌, ◌≤◌, inl, inr, List, [], ◌∷◌, length, map, Option, Some, None, refl, sym, ap, subst, ◌∙◌, arith}
use Rattle.std.specs.Prelude.{slice_get}
use Rattle.std.specs.List.{sum}
use Rattle.std.proofs.lemmas.List.Sums.{sum_by-cons}
use Rattle.rows.specs.Key.{Key}
use Rattle.rows.specs.Row.{Row, live, size}
use Rattle.row_bytes.specs.Patches.{with_patch}
use Rattle.row_bytes.specs.Rows.{newer_in, older_in, row_in}
use Rattle.common_lemmas.specs.Lists.{times}
use Rattle.key_table.specs.Lazy.{IsKeyed}
use Rattle.regions.specs.Segments.{RegionState}
use Rattle.regions.specs.Shapes.{Shape, active_in, active_of, group_count}
use Rattle.regions.specs.Counts.{left, left_of, used_counts}
use Rattle.regions.specs.Contents.{Item, live_at}
use Rattle.regions.specs.declared.place.Place.{Place}
use Rattle.row_cache.specs.Links.{AreLinked, content_of}
use Rattle.row_cache.specs.Rows.{AreGrouped, AreRelinked, content_at, key_at, row_at, row_there, rows_at}
use Rattle.row_cache.specs.declared.ends.Ends.{Ends}
use Rattle.row_cache.specs.inside.Chained.{HoldRows, IsChain, place_in}
use Rattle.row_cache.specs.inside.Consistent.{IsConsistent, rows_in, rows_with}
use Rattle.row_cache.specs.inside.Patches.{PatchesRow}
use Rattle.row_cache.specs.inside.Tables.{AreTablesOf, HoldsARow, IsListed, IsRowOf, TableState}
use Rattle.row_cache.proofs.Groups.{some_kept}
use Rattle.row_cache.proofs.Listed.{map_same}
use Rattle.row_cache.proofs.Relinked.{relinked_lives, same_rows}
use Rattle.row_cache.proofs.States.{place_cases, same_number, some_same}

abbrev size_by : ℕ → ℕ → ℕ
size_by key value = (40 + key + value + 7) / 8 * 8

-- a row of the number is live at the place
record Stands (q : Place) (n : ℕ) (new : RegionState) : Type 0 where
  pub item : Item
  pub next : Row
  pub is : live_at new q ≡ Some item
  pub is_row : IsRowOf item n next

-- a row is read as it was before another one was used
pub read_still : (t u : TableState) (r s : RegionState) (n : ℕ) → AreRelinked r s → u.places ≡ t.places → row_at (live_at s) u.places n ≡ row_at (live_at r) t.places n
read_still t u r s n same places =
    ap (λ (ps : List Place). row_at (live_at s) ps n) places ∙ ap (λ (f : ℕ → Row). f n) (same_rows (live_at r) (live_at s) t.places (relinked_lives r s same))

module _ (p : Place) (from : ℕ) (bytes : List ℕ) (old new : RegionState) (w : PatchesRow p from bytes old new) where
  -- ---- one place

  -- where what is read of the patched row is the same, the same is read at each place
  alike : {X : Type 0} (f : List ℕ → X) → f w.after.content ≡ f w.before.content → (q : Place) → f (content_of (live_at new q)) ≡ f (content_of (live_at old q))
  alike f same q = elim (place_cases q p) [
    | inl here ↦
        ap (λ (x : Place). f (content_of (live_at new x))) here
        ∙ (ap (λ o. f (content_of o)) w.is ∙ (same ∙ (sym (ap (λ o. f (content_of o)) w.was) ∙ sym (ap (λ (x : Place). f (content_of (live_at old x))) here))))
    | inr far ↦ ap (λ o. f (content_of o)) (w.others q far)
  ]

  key_there : (q : Place) → (row_there (live_at new) q).key ≡ (row_there (live_at old) q).key
  key_there = alike (λ (content : List ℕ). (row_in content).key) (ap (λ (r : Row). r.key) w.row)

  size_there : (q : Place) → size (row_there (live_at new) q).key.bytes (row_there (live_at new) q).value ≡ size (row_there (live_at old) q).key.bytes (row_there (live_at old) q).value
  size_there q =
      ap (λ (k : Key). size_by (length k.bytes) (length (row_there (live_at new) q).value)) (key_there q)
      ∙ ap (λ (n : ℕ). size_by (length (row_there (live_at old) q).key.bytes) n) (alike (λ (content : List ℕ). length (row_in content).value) w.long q)

  stands : (q : Place) (item : Item) (n : ℕ) (row : Row) → live_at old q ≡ Some item → IsRowOf item n row → Stands q n new
  stands q item n row is is_row = elim (place_cases q p) [
    | inl here ↦
        (let same : w.before ≡ item = some_same w.was (sym (ap (live_at old) here) ∙ is) in
        record { item = w.after; next = with_patch row from bytes; is = ap (live_at new) here ∙ w.is; is_row = w.rows n row (subst (λ (i : Item). IsRowOf i n row) (sym same) is_row) })
    | inr far ↦ record { item = item; next = row; is = w.others q far ∙ is; is_row = is_row }
  ]

  stood : (q : Place) (now : Item) → live_at new q ≡ Some now → (item : Item) × (live_at old q ≡ Some item)
  stood q now is = elim (place_cases q p) [
    | inl here ↦ (w.before, ap (live_at old) here ∙ w.was)
    | inr far ↦ (now, sym (w.others q far) ∙ is)
  ]

  holds : (q : Place) → HoldsARow (live_at old q) → HoldsARow (live_at new q)
  holds q h = (let x = stands q h.item h.number h.row h.is h.is_row in record { item = x.item; is = x.is; number = h.number; row = x.next; is_row = x.is_row })

  -- ---- rows by their numbers

  key_at_same : (o : Option Place) → (row_in (content_at (live_at new) o)).key ≡ (row_in (content_at (live_at old) o)).key
  key_at_same None = refl
  key_at_same (Some q) = key_there q

  keys_same : (places : List Place) → key_at (live_at new) places ≡ key_at (live_at old) places
  keys_same places = λ i n. key_at_same (slice_get places n) i

  size_at_same : (o : Option Place) → size (row_in (content_at (live_at new) o)).key.bytes (row_in (content_at (live_at new) o)).value
      ≡ size (row_in (content_at (live_at old) o)).key.bytes (row_in (content_at (live_at old) o)).value
  size_at_same None = refl
  size_at_same (Some q) = size_there q

  sizes_same : (places : List Place) (ns : List ℕ) → live (rows_at (live_at new) places ns) ≡ live (rows_at (live_at old) places ns)
  sizes_same places [] = refl
  sizes_same places (n ∷ ns) =
      let a = sum_by-cons (λ (x : Row). size x.key.bytes x.value) (row_at (live_at new) places n) (rows_at (live_at new) places ns) in
      let b = sum_by-cons (λ (x : Row). size x.key.bytes x.value) (row_at (live_at old) places n) (rows_at (live_at old) places ns) in
      let here = size_at_same (slice_get places n) in let rest = sizes_same places ns in
      omega (arith, a, b, here, rest)

  tables_patched : (t : TableState) → AreTablesOf t (live_at old) → AreTablesOf t (live_at new)
  tables_patched t are =
      let key : (n : ℕ) → key_at (live_at new) t.places n ≡ key_at (live_at old) t.places n = λ n. ap (λ (f : ℕ → Key). f n) (keys_same t.places) in
      record {
        numbers = are.numbers;
        rows = λ n l.
            (let h = are.rows n l in let x = stands h.place h.item n h.row h.is_live h.is_row in
            record { place = h.place; placed = h.placed; item = x.item; is_live = x.is; row = x.next; is_row = x.is_row });
        every = λ q now e. (let b = stood q now e in are.every q b.0 b.1);
        apart = λ m n lm ln e. are.apart m n lm ln (sym (key m) ∙ (e ∙ key n));
        index = subst (λ (f : ℕ → Key). IsKeyed f t.index) (sym (keys_same t.places)) are.index;
      }

  -- ---- the chain

  linked_still : (before : Option Place) (ps : List Place) (behind : Option Place) → AreLinked (live_at old) before ps behind → AreLinked (live_at new) before ps behind
  linked_still before [] behind h = tt
  linked_still before (q ∷ qs) behind h = (alike newer_in w.newer q ∙ h.0, alike older_in w.older q ∙ h.1, linked_still (Some q) qs behind h.2)

  rows_still : (ps : List Place) → HoldRows (live_at old) ps → HoldRows (live_at new) ps
  rows_still [] h = tt
  rows_still (q ∷ qs) h = (holds q h.0, rows_still qs h.1)

  chain_patched : (ends : Ends) (ps : List Place) → IsChain (live_at old) ends ps → IsChain (live_at new) ends ps
  chain_patched ends ps c = record {
    front = c.front;
    last = c.last;
    linked = linked_still None ps None c.linked;
    apart = c.apart;
    room = c.room;
    rows = rows_still ps c.rows;
  }

  -- ---- the groups

  grouped_patched : AreGrouped old → AreGrouped new
  grouped_patched all = λ q now is.
      (let shapes = ap (λ (s : Shape). Some ((row_in now.content).key.table % length s.groups)) (sym w.shape) in
      elim (place_cases q p) [
        | inl here ↦
            (let same : w.after ≡ now = some_same w.is (sym (ap (live_at new) here) ∙ is) in
            let read = ap (λ (i : Item). row_in i.content) (sym same) ∙ w.row in
            ap (λ (i : Item). i.group) (sym same) ∙ (w.group ∙ (all p w.before w.was ∙ (ap (λ (r : Row). Some (r.key.table % group_count old)) (sym read) ∙ shapes))))
        | inr far ↦ all q now (sym (w.others q far) ∙ is) ∙ shapes
      ])

  -- ---- the cache

  pub consistent_patched : (t : TableState) → IsConsistent t old → IsConsistent t new
  consistent_patched t c =
      let total = ap (λ ns. sum ns) w.live in
      record {
        some = some_kept old new w.shape c.some;
        counted = record { tables = tables_patched t c.counted.tables; sizes = sizes_same t.places t.recency ∙ (c.counted.sizes ∙ sym total) };
        chain = chain_patched t.ends (map (place_in t.places) t.recency) c.chain;
        grouped = grouped_patched c.grouped;
      }

  pub left_patched : (g : ℕ) → left new g ≡ left old g
  left_patched g = ap (λ u. left_of u (active_of new g)) w.used ∙ ap (λ (s : Shape). left_of (used_counts old) (active_in s.groups g)) w.shape

  -- the patched row is another, and those of other numbers are as they were
  pub rows_patched : (t : TableState) (n : ℕ) (rest : List ℕ) → AreTablesOf t (live_at old) → t.recency ≡ n ∷ rest → IsListed t n → slice_get t.places n ≡ Some p
      → ((m : ℕ) → 1 ≤ times m rest → IsListed t m × (m ≢ n))
      → rows_in t new ≡ with_patch (row_at (live_at old) t.places n) from bytes ∷ rows_with t old rest
  rows_patched t n rest are recency listed placed others =
      let first : row_at (live_at new) t.places n ≡ with_patch (row_at (live_at old) t.places n) from bytes =
      ap (λ o. row_in (content_at (live_at new) o)) placed
      ∙ (ap (λ o. row_in (content_of o)) w.is
      ∙ (w.row
      ∙ ap (λ (r : Row). with_patch r from bytes) (sym (ap (λ o. row_in (content_of o)) w.was) ∙ sym (ap (λ o. row_in (content_at (live_at old) o)) placed)))) in
      let same : (m : ℕ) → 1 ≤ times m rest → row_at (live_at new) t.places m ≡ row_at (live_at old) t.places m = λ m l.
      (let other = others m l in let hm = are.rows m other.0 in let hn = are.rows n listed in
      let at : hn.place ≡ p = some_same hn.placed placed in
      let elsewhere : hm.place ≢ p = λ e. other.1 (same_number (live_at old) t.places m n hm hn (e ∙ sym at)) in
      ap (λ o. row_in (content_at (live_at new) o)) hm.placed
      ∙ (ap (λ o. row_in (content_of o)) (w.others hm.place elsewhere) ∙ sym (ap (λ o. row_in (content_at (live_at old) o)) hm.placed))) in
      ap (λ ns. rows_at (live_at new) t.places ns) recency
      ∙ (ap (λ (r : Row). r ∷ rows_at (live_at new) t.places rest) first
      ∙ ap (λ (rs : List Row). with_patch (row_at (live_at old) t.places n) from bytes ∷ rs) (map_same (row_at (live_at new) t.places) (row_at (live_at old) t.places) rest same))
