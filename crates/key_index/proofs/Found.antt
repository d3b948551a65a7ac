-- What a place in blocks says of all rows.
use Rattle.std.proofs.Common.{◌≡◌, ◌≢◌, ℕ, zero, suc, ◌+◌, ◌<◌, ◌≤◌, true, false, true≢false, List, [], ◌∷◌, ◌++◌, length, take, drop, get_or, slice_get, Some, None, refl, sym, ap, subst, ◌∙◌, arith, add-one, Less, is_lt, append_assoc}
use Rattle.std.specs.Prelude.{All, Contains}
use Rattle.std.proofs.lemmas.List.{take-append-drop}
use Rattle.std.proofs.lemmas.List.Elements.{All-head, All-tail}
use Rattle.rows.specs.Key.{Key}
use Rattle.key_index.specs.declared.entries.Entry.{Entry}
use Rattle.key_index.specs.Order.{key_cmp, Each, AreAbove, AreBelow, AreRising}
use Rattle.key_index.specs.inside.Blocks.{AreAtLeast}
use Rattle.key_index.specs.Lead.{rows_of}
use Rattle.key_index.specs.inside.Blocks.{entries_of, entries_at, front, back, IsPlaceOf}
use Rattle.key_index.proofs.KeyOrder.{least_less, less_apart, above_apart, least_other, above_least}
use Rattle.key_index.proofs.RowOrder.{each_append, each_weaker, rising_left, rising_right}
use Rattle.key_index.proofs.InBlocks.{rows_append, all_at}

pub split_at : (blocks : List (List Entry)) (k : ℕ) → entries_of blocks ≡ entries_of (take k blocks) ++ (entries_at blocks k ++ entries_of (drop (k + 1) blocks))
split_at blocks k = subst (λ n. entries_of blocks ≡ entries_of (take k blocks) ++ (entries_at blocks k ++ entries_of (drop n blocks))) (sym (add-one k)) (go blocks k)
  where
    go : (blocks : List (List Entry)) (k : ℕ) → entries_of blocks ≡ entries_of (take k blocks) ++ (entries_at blocks k ++ entries_of (drop (suc k) blocks))
    go [] zero = refl
    go [] (suc k) = refl
    go (b ∷ blocks) zero = refl
    go (b ∷ blocks) (suc k) = ap (λ es. b ++ es) (go blocks k) ∙ sym (append_assoc b (entries_of (take k blocks)) (entries_at blocks k ++ entries_of (drop (suc k) blocks)))

-- the rows are those before the place and those from it on
pub cut_at : (blocks : List (List Entry)) (k at : ℕ) → rows_of (entries_of blocks) ≡ front blocks k at ++ back blocks k at
cut_at blocks k at =
    let a = rows_of (entries_of (take k blocks)) in
    let b = rows_of (entries_at blocks k) in
    let d = rows_of (entries_of (drop (k + 1) blocks)) in
    ap rows_of (split_at blocks k)
    ∙ rows_append (entries_of (take k blocks)) (entries_at blocks k ++ entries_of (drop (k + 1) blocks))
    ∙ ap (λ xs. a ++ xs) (rows_append (entries_at blocks k) (entries_of (drop (k + 1) blocks)))
    ∙ ap (λ xs. a ++ (xs ++ d)) (sym (take-append-drop at b))
    ∙ ap (λ xs. a ++ xs) (append_assoc (take at b) (drop at b) d)
    ∙ sym (append_assoc a (take at b) (drop at b ++ d))

pub front_below : (key_of : ℕ → Key) (key : Key) (blocks : List (List Entry)) (k at : ℕ) → IsPlaceOf key_of key blocks k at → AreBelow key_of key (front blocks k at)
front_below key_of key blocks k at h =
    each_append (λ r. key_cmp (key_of r) key ≡ Less) (rows_of (entries_of (take k blocks))) (take at (rows_of (entries_at blocks k))) h.before h.below

pub back_least : (key_of : ℕ → Key) (key : Key) (blocks : List (List Entry)) (k at : ℕ) → IsPlaceOf key_of key blocks k at → AreAtLeast key_of key (back blocks k at)
back_least key_of key blocks k at h =
    each_append (λ r. is_lt (key_cmp (key_of r) key) ≡ false) (drop at (rows_of (entries_at blocks k))) (rows_of (entries_of (drop (k + 1) blocks))) h.at_least
    (each_weaker (λ r. key_cmp key (key_of r) ≡ Less) (λ r. is_lt (key_cmp (key_of r) key) ≡ false) (λ r e. above_least (key_of r) key e) (rows_of (entries_of (drop (k + 1) blocks))) h.after)

-- what is not below a key and has not the key is above it
pub above_others : (key_of : ℕ → Key) (key : Key) (rows : List ℕ) → AreAtLeast key_of key rows → Each (λ r. key_of r ≢ key) rows → AreAbove key_of key rows
above_others key_of key [] h e = tt
above_others key_of key (r ∷ rows) h e = (least_other (key_of r) key h.0 e.0, above_others key_of key rows h.1 e.1)

-- the first of rows in order that are not below a key alone may have the key
pub above_first : (key_of : ℕ → Key) (key : Key) (r : ℕ) (rows : List ℕ) → AreRising key_of (r ∷ rows) → is_lt (key_cmp (key_of r) key) ≡ false → AreAbove key_of key rows
above_first key_of key r rows rising h = go rows rising.0
  where
    go : (rows : List ℕ) → AreAbove key_of (key_of r) rows → AreAbove key_of key rows
    go [] e = tt
    go (s ∷ rows) e =
        let other : key_of s ≢ key = λ same.
        (let f : is_lt (key_cmp (key_of r) key) ≡ true = ap is_lt (subst (λ k. key_cmp (key_of r) k ≡ Less) same e.0) in absurd (true≢false (sym f ∙ h))) in
        (least_other (key_of s) key (least_less (key_of r) (key_of s) key h e.0) other, go rows e.1)

pub got : (es : List Entry) (at : ℕ) (e : Entry) → Some e ≡ slice_get es at → drop at (rows_of es) ≡ e.row ∷ rows_of (drop (at + 1) es)
got es at e h = subst (λ n. drop at (rows_of es) ≡ e.row ∷ rows_of (drop n es)) (sym (add-one at)) (go es at h)
  where
    go : (es : List Entry) (at : ℕ) → Some e ≡ slice_get es at → drop at (rows_of es) ≡ e.row ∷ rows_of (drop (suc at) es)
    go [] at h = cc
    go (x ∷ es) zero h = let same : e ≡ x = cc in ap (λ (y : Entry). y.row ∷ rows_of es) (sym same)
    go (x ∷ es) (suc at) h = go es at h

pub got_none : (es : List Entry) (at : ℕ) → None ≡ slice_get es at → drop at (rows_of es) ≡ []
got_none [] zero h = refl
got_none [] (suc at) h = refl
got_none (x ∷ es) zero h = cc
got_none (x ∷ es) (suc at) h = got_none es at h

pub all_got : (P : Entry → Type 0) (blocks : List (List Entry)) (k at : ℕ) (e : Entry) → Some e ≡ slice_get (entries_at blocks k) at → All P (entries_of blocks) → P e
all_got P blocks k at e h all = go (entries_at blocks k) at h (all_at P blocks k all)
  where
    go : (es : List Entry) (at : ℕ) → Some e ≡ slice_get es at → All P es → P e
    go [] at h all = absurd (let c : ⊥ = cc in c)
    go (x ∷ es) zero h all = let same : e ≡ x = cc in subst P (sym same) (All-head P x es all)
    go (x ∷ es) (suc at) h all = go es at h (All-tail P x es all)

absent_cut : (key_of : ℕ → Key) (key : Key) (rows xs ys : List ℕ) → rows ≡ xs ++ ys → AreBelow key_of key xs → Each (λ r. key_of r ≢ key) ys → Each (λ r. key_of r ≢ key) rows
absent_cut key_of key rows xs ys e below apart =
    subst (Each (λ r. key_of r ≢ key)) (sym e) (each_append (λ r. key_of r ≢ key) xs ys (each_weaker (λ r. key_cmp (key_of r) key ≡ Less) (λ r. key_of r ≢ key) (λ r f. less_apart (key_of r) key f) xs below) apart)

apart_after : (key_of : ℕ → Key) (key : Key) (blocks : List (List Entry)) (k at : ℕ) → IsPlaceOf key_of key blocks k at → Each (λ r. key_of r ≢ key) (rows_of (entries_of (drop (k + 1) blocks)))
apart_after key_of key blocks k at h = each_weaker (λ r. key_cmp key (key_of r) ≡ Less) (λ r. key_of r ≢ key) (λ r f. above_apart key (key_of r) f) (rows_of (entries_of (drop (k + 1) blocks))) h.after

pub none_at : (key_of : ℕ → Key) (key : Key) (blocks : List (List Entry)) (k at : ℕ) → IsPlaceOf key_of key blocks k at
    → None ≡ slice_get (entries_at blocks k) at → Each (λ r. key_of r ≢ key) (rows_of (entries_of blocks))
none_at key_of key blocks k at h none =
    absent_cut key_of key (rows_of (entries_of blocks)) (front blocks k at) (back blocks k at) (cut_at blocks k at) (front_below key_of key blocks k at h)
    (subst (λ xs. Each (λ r. key_of r ≢ key) (xs ++ rows_of (entries_of (drop (k + 1) blocks)))) (sym (got_none (entries_at blocks k) at none)) (apart_after key_of key blocks k at h))

pub rising_back : (key_of : ℕ → Key) (blocks : List (List Entry)) (k at : ℕ) → AreRising key_of (rows_of (entries_of blocks)) → AreRising key_of (drop at (rows_of (entries_at blocks k)))
rising_back key_of blocks k at rising =
    rising_left key_of (drop at (rows_of (entries_at blocks k))) (rows_of (entries_of (drop (k + 1) blocks)))
    (rising_right key_of (front blocks k at) (back blocks k at) (subst (AreRising key_of) (cut_at blocks k at) rising))

pub other_at : (key_of : ℕ → Key) (key : Key) (blocks : List (List Entry)) (k at : ℕ) (e : Entry) → IsPlaceOf key_of key blocks k at
    → AreRising key_of (rows_of (entries_of blocks)) → Some e ≡ slice_get (entries_at blocks k) at → key_of e.row ≢ key → Each (λ r. key_of r ≢ key) (rows_of (entries_of blocks))
other_at key_of key blocks k at e h rising some apart =
    let is = got (entries_at blocks k) at e some in
    let more = rows_of (drop (at + 1) (entries_at blocks k)) in
    let above = above_first key_of key e.row more (subst (AreRising key_of) is (rising_back key_of blocks k at rising)) (subst (AreAtLeast key_of key) is h.at_least).0 in
    absent_cut key_of key (rows_of (entries_of blocks)) (front blocks k at) (back blocks k at) (cut_at blocks k at) (front_below key_of key blocks k at h)
    (subst (λ xs. Each (λ r. key_of r ≢ key) (xs ++ rows_of (entries_of (drop (k + 1) blocks)))) (sym is)
    (apart, each_append (λ r. key_of r ≢ key) more (rows_of (entries_of (drop (k + 1) blocks))) (each_weaker (λ r. key_cmp key (key_of r) ≡ Less) (λ r. key_of r ≢ key) (λ r f. above_apart key (key_of r) f) more above) (apart_after key_of key blocks k at h)))

in_middle : (xs ys : List ℕ) (x : ℕ) → Contains (xs ++ x ∷ ys) x
in_middle [] ys x = (0, omega arith, refl)
in_middle (y ∷ xs) ys x = let m = in_middle xs ys x in (suc m.0, omega arith, m.2)

pub found_at : (blocks : List (List Entry)) (k at : ℕ) (e : Entry) → Some e ≡ slice_get (entries_at blocks k) at → Contains (rows_of (entries_of blocks)) e.row
found_at blocks k at e some =
    let is = got (entries_at blocks k) at e some in
    subst (λ xs. Contains xs e.row) (sym (cut_at blocks k at ∙ ap (λ xs. front blocks k at ++ (xs ++ rows_of (entries_of (drop (k + 1) blocks)))) is))
    (in_middle (front blocks k at) (rows_of (drop (at + 1) (entries_at blocks k)) ++ rows_of (entries_of (drop (k + 1) blocks))) e.row)

pub at_past : (blocks : List (List Entry)) (k : ℕ) → length blocks ≤ k → entries_at blocks k ≡ []
at_past [] k h = refl
at_past (b ∷ blocks) zero h = absurd (omega arith)
at_past (b ∷ blocks) (suc k) h = at_past blocks k (omega arith)

pub get_past : (es : List Entry) (at : ℕ) → length es ≤ at → None ≡ slice_get es at
get_past [] zero h = refl
get_past [] (suc at) h = refl
get_past (e ∷ es) zero h = absurd (omega arith)
get_past (e ∷ es) (suc at) h = get_past es at (omega arith)

pub get_here : (es : List Entry) (at : ℕ) (d : Entry) → at < length es → Some (get_or es at d) ≡ slice_get es at
get_here [] at d h = absurd (omega arith)
get_here (e ∷ es) zero d h = refl
get_here (e ∷ es) (suc at) d h = get_here es at d (omega arith)
