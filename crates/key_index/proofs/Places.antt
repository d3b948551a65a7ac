-- Places in an index.
use Rattle.std.proofs.Common.{◌≡◌, ◌≢◌, ℕ, zero, suc, ◌+◌, ◌<◌, ◌≤◌, List, [], ◌∷◌, ◌++◌, length, take, drop, slice_get, Some, refl, sym, ap, subst, ◌∙◌, arith, length-append, Less}
use Rattle.std.specs.Prelude.{Contains}
use Rattle.std.proofs.lemmas.List.{length-map, length-take-le, take-append-drop}
use Rattle.std.proofs.Math.Seq.{take-append_seam, drop-append_seam}
use Rattle.rows.specs.Key.{Key}
use Rattle.key_index.specs.declared.entries.Entry.{Entry}
use Rattle.key_index.specs.declared.place.Place.{Place}
use Rattle.key_index.specs.Order.{key_cmp, Each, AreAbove, AreBelow}
use Rattle.key_index.specs.Lead.{rows_of}
use Rattle.key_index.specs.Index.{Index, joined, rank, IsPlaceFor, IsRowAt}
use Rattle.key_index.specs.inside.Blocks.{entries_of, entries_at, front, back, IsPlaceOf}
use Rattle.key_index.proofs.KeyOrder.{less_apart, above_apart}
use Rattle.key_index.proofs.RowOrder.{each_right, each_append, each_weaker}
use Rattle.key_index.proofs.Edits.{same_back}
use Rattle.key_index.proofs.Told.{meant}
use Rattle.key_index.proofs.Changed.{cut_taken, inside_of}
use Rattle.key_index.proofs.Found.{cut_at, front_below, back_least, above_others}

-- as many rows stand before a place as its rank says
front_len : (room : ℕ) (blocks : List (List Entry)) (place : Place) → place.at ≤ length (entries_at blocks place.block) → length (front blocks place.block place.at) ≡ rank (meant room blocks) place
front_len room blocks place within =
    let k = place.block in
    let at = place.at in
    let rows = rows_of (entries_at blocks k) in
    let all = length-map (entries_at blocks k) (λ (e : Entry). e.row) in
    length-append (rows_of (entries_of (take k blocks))) (take at rows)
    ∙ ap (λ (n : ℕ). n + length (take at rows)) (length-map (entries_of (take k blocks)) (λ (e : Entry). e.row))
    ∙ ap (λ (n : ℕ). length (joined (take k blocks)) + n) (length-take-le at rows (omega (arith, all, within)))

-- these are the rows before it
pub before_is : (room : ℕ) (blocks : List (List Entry)) (place : Place) → place.at ≤ length (entries_at blocks place.block)
    → take (rank (meant room blocks) place) (rows_of (entries_of blocks)) ≡ front blocks place.block place.at
before_is room blocks place within =
    let before = front blocks place.block place.at in
    let behind = back blocks place.block place.at in
    ap (λ (xs : List ℕ). take (rank (meant room blocks) place) xs) (cut_at blocks place.block place.at)
    ∙ ap (λ (n : ℕ). take n (before ++ behind)) (sym (front_len room blocks place within)) ∙ take-append_seam before behind

pub behind_is : (room : ℕ) (blocks : List (List Entry)) (place : Place) → place.at ≤ length (entries_at blocks place.block)
    → drop (rank (meant room blocks) place) (rows_of (entries_of blocks)) ≡ back blocks place.block place.at
behind_is room blocks place within =
    let before = front blocks place.block place.at in
    let behind = back blocks place.block place.at in
    ap (λ (xs : List ℕ). drop (rank (meant room blocks) place) xs) (cut_at blocks place.block place.at)
    ∙ ap (λ (n : ℕ). drop n (before ++ behind)) (sym (front_len room blocks place within)) ∙ drop-append_seam before behind

-- what a search of the index's blocks tells of a place for a key that no row has
pub place_told : (key_of : ℕ → Key) (key : Key) (room : ℕ) (blocks : List (List Entry)) (index : Index) (place : Place) → meant room blocks ≡ index
    → (0 < length blocks → place.block < length blocks) → place.at ≤ length (entries_at blocks place.block)
    → IsPlaceOf key_of key blocks place.block place.at → Each (λ r. key_of r ≢ key) (rows_of (entries_of blocks)) → IsPlaceFor key_of key index place
place_told key_of key room blocks index place view inside within is absent =
    let k = place.block in
    let at = place.at in
    let others = each_right (λ r. key_of r ≢ key) (front blocks k at) (back blocks k at) (subst (Each (λ r. key_of r ≢ key)) (cut_at blocks k at) absent) in
    subst (λ (i : Index). IsPlaceFor key_of key i place) view (
    record {
      within = record { block = inside; at = within };
      before = subst (AreBelow key_of key) (sym (before_is room blocks place within)) (front_below key_of key blocks k at is);
      behind = subst (AreAbove key_of key) (sym (behind_is room blocks place within)) (above_others key_of key (back blocks k at) (back_least key_of key blocks k at is) others);
    }
    )

-- what a place says of the blocks
pub record StandsAt (key_of : ℕ → Key) (key : Key) (blocks : List (List Entry)) (k at : ℕ) : Type 0 where
  pub inside : 0 < length blocks → k < length blocks
  pub within : at ≤ length (entries_at blocks k)
  pub below : AreBelow key_of key (front blocks k at)
  pub above : AreAbove key_of key (back blocks k at)

pub stands_at : (key_of : ℕ → Key) (key : Key) (room : ℕ) (blocks : List (List Entry)) (index : Index) (place : Place) → meant room blocks ≡ index → IsPlaceFor key_of key index place
    → StandsAt key_of key blocks place.block place.at
stands_at key_of key room blocks index place view told =
    let is = subst (λ (i : Index). IsPlaceFor key_of key i place) (sym view) told in
    record {
      inside = is.within.block;
      within = is.within.at;
      below = subst (AreBelow key_of key) (before_is room blocks place is.within.at) is.before;
      above = subst (AreAbove key_of key) (behind_is room blocks place is.within.at) is.behind;
    }

-- the parts of other blocks with the same rows and the same front
pub stand_still : (key_of : ℕ → Key) (key : Key) (blocks others : List (List Entry)) (k at j to : ℕ) → StandsAt key_of key blocks k at → rows_of (entries_of others) ≡ rows_of (entries_of blocks) → front others j to ≡ front blocks k at
    → AreBelow key_of key (front others j to) × AreAbove key_of key (back others j to)
stand_still key_of key blocks others k at j to is e f = (
  subst (AreBelow key_of key) (sym f) is.below,
  subst (AreAbove key_of key) (sym (same_back blocks others k at j to e f)) is.above,
)

-- a place in an index is for keys that it has not
pub absent_at : (key_of : ℕ → Key) (key : Key) (index : Index) (place : Place) → IsPlaceFor key_of key index place → Each (λ r. key_of r ≢ key) index.rows
absent_at key_of key index place is =
    let n = rank index place in
    subst (Each (λ r. key_of r ≢ key)) (take-append-drop n index.rows)
    (each_append (λ r. key_of r ≢ key) (take n index.rows) (drop n index.rows)
    (each_weaker (λ r. key_cmp (key_of r) key ≡ Less) (λ r. key_of r ≢ key) (λ r e. less_apart (key_of r) key e) (take n index.rows) is.before)
    (each_weaker (λ r. key_cmp key (key_of r) ≡ Less) (λ r. key_of r ≢ key) (λ r e. above_apart key (key_of r) e) (drop n index.rows) is.behind))

-- ---- a row that stands at a place

at_seam : (xs ys : List ℕ) (x n : ℕ) → length xs ≡ n → slice_get (xs ++ x ∷ ys) n ≡ Some x
at_seam [] ys x n e = ap (λ (m : ℕ). slice_get (x ∷ ys) m) (sym e)
at_seam (y ∷ xs) ys x n e = ap (λ (m : ℕ). slice_get (y ∷ (xs ++ x ∷ ys)) m) (sym e) ∙ at_seam xs ys x (length xs) refl

there : (xs : List ℕ) (n x : ℕ) → Some x ≡ slice_get xs n → Contains xs x
there [] n x e = absurd (let c : ⊥ = cc in c)
there (y ∷ xs) zero x e = let same : x ≡ y = cc in (0, omega arith, sym same)
there (y ∷ xs) (suc n) x e = let m = there xs n x e in (let i = m.1 in (suc m.0, omega (arith, i), m.2))

-- the row of the entry at a place stands there
pub row_told : (room : ℕ) (blocks : List (List Entry)) (index : Index) (place : Place) (e : Entry) → meant room blocks ≡ index → Some e ≡ slice_get (entries_at blocks place.block) place.at → IsRowAt index place e.row
row_told room blocks index place e view some =
    let at = (inside_of blocks place.block place.at e some).1 in
    subst (λ (i : Index). IsRowAt i place e.row) view (
    record {
      at = at;
      is = sym (ap (λ (xs : List ℕ). slice_get xs (rank (meant room blocks) place)) (cut_taken blocks place.block place.at e some)
          ∙ at_seam (front blocks place.block place.at) (rows_of (drop (place.at + 1) (entries_at blocks place.block)) ++ rows_of (entries_of (drop (place.block + 1) blocks))) e.row _ (front_len room blocks place (omega (arith, at))));
    }
    )

-- the entry at a place where a row stands is the row's
pub entry_told : (room : ℕ) (blocks : List (List Entry)) (index : Index) (place : Place) (row : ℕ) → meant room blocks ≡ index → IsRowAt index place row
    → (e : Entry) × (Some e ≡ slice_get (entries_at blocks place.block) place.at) × (e.row ≡ row)
entry_told room blocks index place row view told =
    let is = subst (λ (i : Index). IsRowAt i place row) (sym view) told in
    let got = some_entry (entries_at blocks place.block) place.at is.at in
    let same = row_told room blocks (meant room blocks) place got.0 refl got.1 in
    (got.0, got.1, some_same (same.is ∙ sym is.is))
  where
    some_same : {a b : ℕ} → Some a ≡ Some b → a ≡ b
    some_same e = cc

    some_entry : (es : List Entry) (at : ℕ) → at < length es → (e : Entry) × (Some e ≡ slice_get es at)
    some_entry [] at h = absurd (omega arith)
    some_entry (e ∷ es) zero h = (e, refl)
    some_entry (e ∷ es) (suc at) h = some_entry es at (omega arith)

pub row_there : (index : Index) (place : Place) (row : ℕ) → IsRowAt index place row → Contains index.rows row
row_there index place row is = there index.rows (rank index place) row is.is

-- how many entries there are, with one row more
pub one_more : (fewer more : List Entry) (xs ys : List ℕ) (x : ℕ) → rows_of fewer ≡ xs ++ ys → rows_of more ≡ xs ++ x ∷ ys → length more ≡ length fewer + 1
one_more fewer more xs ys x e f =
    let a = length-map fewer (λ (y : Entry). y.row) in
    let b = length-map more (λ (y : Entry). y.row) in
    let c = ap length e in
    let d = ap length f in
    let h = length-append xs ys in
    let i = length-append xs (x ∷ ys) in
    omega (arith, a, b, c, d, h, i)
