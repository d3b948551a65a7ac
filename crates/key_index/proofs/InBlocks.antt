-- Entries in blocks.
use Rattle.std.proofs.Common.{◌≡◌, ℕ, zero, suc, ◌+◌, ◌-◌, ◌<◌, List, [], ◌∷◌, ◌++◌, length, take, drop, get_or, refl, sym, ap, subst, arith, Less}
use Rattle.std.specs.Prelude.{All}
use Rattle.std.proofs.lemmas.List.{take_at, drop_at, map-append}
use Rattle.std.proofs.lemmas.List.Elements.{All-head, All-tail, All-nil, All-take, All-drop, All-get_or}
use Rattle.rows.specs.Key.{Key}
use Rattle.key_index.specs.declared.entries.Entry.{Entry}
use Rattle.key_index.specs.Order.{key_cmp, Each, AreAbove, AreBelow, AreRising}
use Rattle.key_index.specs.Lead.{rows_of}
use Rattle.key_index.specs.inside.Blocks.{entries_of, entries_at}
use Rattle.key_index.proofs.RowOrder.{each_append, each_left, each_right, each_weaker, rising_left, rising_right, rising_apart, above_all}

pub rows_append : (xs ys : List Entry) → rows_of (xs ++ ys) ≡ rows_of xs ++ rows_of ys
rows_append xs ys = map-append (λ (x : Entry). x.row) xs ys

pub all_left : (P : Entry → Type 0) (xs ys : List Entry) → All P (xs ++ ys) → All P xs
all_left P xs ys h = subst (All P) (take_at xs ys (length xs) refl) (All-take P (length xs) (xs ++ ys) h)

pub all_right : (P : Entry → Type 0) (xs ys : List Entry) → All P (xs ++ ys) → All P ys
all_right P xs ys h = subst (All P) (drop_at xs ys (length xs) refl) (All-drop P (length xs) (xs ++ ys) h)

-- what holds of all entries holds of those of a block
pub all_at : (P : Entry → Type 0) (blocks : List (List Entry)) (k : ℕ) → All P (entries_of blocks) → All P (entries_at blocks k)
all_at P [] k h = All-nil P
all_at P (b ∷ blocks) zero h = all_left P b (entries_of blocks) h
all_at P (b ∷ blocks) (suc k) h = all_at P blocks k (all_right P b (entries_of blocks) h)

pub some_at : (blocks : List (List Entry)) (k : ℕ) → All (λ b. 0 < length b) blocks → k < length blocks → 0 < length (entries_at blocks k)
some_at [] k full h = absurd (omega arith)
some_at (b ∷ blocks) zero full h = All-head (λ (v : List Entry). 0 < length v) b blocks full
some_at (b ∷ blocks) (suc k) full h = some_at blocks k (All-tail (λ (v : List Entry). 0 < length v) b blocks full) (omega arith)

-- a block's first entry, as it is read
pub first_read : (es block : List Entry) (d : Entry) → es ≡ block → 0 < length block → get_or es 0 d ≡ get_or block 0 (get_or es 0 d)
first_read es [] d is some = absurd (omega arith)
first_read es (x ∷ block) d is some = ap (λ (xs : List Entry). get_or xs 0 d) is

pub all_first : (P : Entry → Type 0) (blocks : List (List Entry)) (k : ℕ) (e : Entry) → All P (entries_of blocks) → All (λ b. 0 < length b) blocks → k < length blocks
    → e ≡ get_or (entries_at blocks k) 0 e → P e
all_first P blocks k e all full h read = subst P (sym read) (All-get_or P (entries_at blocks k) 0 e (some_at blocks k full h) (all_at P blocks k all))

pub rising_rest : (key_of : ℕ → Key) (b : List Entry) (blocks : List (List Entry)) → AreRising key_of (rows_of (entries_of (b ∷ blocks))) → AreRising key_of (rows_of (entries_of blocks))
rising_rest key_of b blocks h = rising_right key_of (rows_of b) (rows_of (entries_of blocks)) (subst (AreRising key_of) (rows_append b (entries_of blocks)) h)

pub rising_at : (key_of : ℕ → Key) (blocks : List (List Entry)) (k : ℕ) → AreRising key_of (rows_of (entries_of blocks)) → AreRising key_of (rows_of (entries_at blocks k))
rising_at key_of [] k h = tt
rising_at key_of (b ∷ blocks) zero h = rising_left key_of (rows_of b) (rows_of (entries_of blocks)) (subst (AreRising key_of) (rows_append b (entries_of blocks)) h)
rising_at key_of (b ∷ blocks) (suc k) h = rising_at key_of blocks k (rising_rest key_of b blocks h)

-- what holds of each row holds of a block's first
pub each_first : (P : ℕ → Type 0) (blocks : List (List Entry)) (k : ℕ) (d : Entry) → All (λ b. 0 < length b) blocks → k < length blocks
    → Each P (rows_of (entries_of blocks)) → P (get_or (entries_at blocks k) 0 d).row
each_first P [] k d full h e = absurd (omega arith)
each_first P (b ∷ blocks) zero d full h e = here b (All-head (λ (v : List Entry). 0 < length v) b blocks full) (each_left P (rows_of b) (rows_of (entries_of blocks)) (subst (Each P) (rows_append b (entries_of blocks)) e))
  where
    here : (es : List Entry) → 0 < length es → Each P (rows_of es) → P (get_or es 0 d).row
    here [] h e = absurd (omega arith)
    here (x ∷ es) h e = e.0
each_first P (b ∷ blocks) (suc k) d full h e =
    each_first P blocks k d (All-tail (λ (v : List Entry). 0 < length v) b blocks full) (omega arith) (each_right P (rows_of b) (rows_of (entries_of blocks)) (subst (Each P) (rows_append b (entries_of blocks)) e))

-- the blocks from one on that begins above a key
pub above_from : (key_of : ℕ → Key) (key : Key) (blocks : List (List Entry)) (k : ℕ) (d : Entry) → AreRising key_of (rows_of (entries_of blocks))
    → All (λ b. 0 < length b) blocks → k < length blocks → key_cmp key (key_of (get_or (entries_at blocks k) 0 d).row) ≡ Less → AreAbove key_of key (rows_of (entries_of (drop k blocks)))
above_from key_of key [] k d rising full h e = absurd (omega arith)
above_from key_of key (b ∷ blocks) zero d rising full h e =
    let some = All-head (λ (v : List Entry). 0 < length v) b blocks full in
    above_all key_of key (rows_of (b ++ entries_of blocks)) 0 rising
    (subst (λ r. key_cmp key (key_of r) ≡ Less) (sym (front b (entries_of blocks) some)) e)
  where
    front : (xs ys : List Entry) → 0 < length xs → get_or (rows_of (xs ++ ys)) 0 0 ≡ (get_or xs 0 d).row
    front [] ys h = absurd (omega arith)
    front (x ∷ xs) ys h = refl
above_from key_of key (b ∷ blocks) (suc k) d rising full h e =
    above_from key_of key blocks k d (rising_rest key_of b blocks rising) (All-tail (λ (v : List Entry). 0 < length v) b blocks full) (omega arith) e

-- the blocks before one that doesn't begin above a key
pub below_first : (key_of : ℕ → Key) (key : Key) (blocks : List (List Entry)) (k : ℕ) (d : Entry) → AreRising key_of (rows_of (entries_of blocks))
    → All (λ b. 0 < length b) blocks → k < length blocks
    → ((low : Key) → key_cmp low (key_of (get_or (entries_at blocks k) 0 d).row) ≡ Less → key_cmp low key ≡ Less)
    → AreBelow key_of key (rows_of (entries_of (take k blocks)))
below_first key_of key [] k d rising full h e = absurd (omega arith)
below_first key_of key (b ∷ blocks) zero d rising full h e = tt
below_first key_of key (b ∷ blocks) (suc k) d rising full h e =
    let rest = All-tail (λ (v : List Entry). 0 < length v) b blocks full in
    let first : ℕ = (get_or (entries_at blocks k) 0 d).row in
    let apart = rising_apart key_of (rows_of b) (rows_of (entries_of blocks)) (subst (AreRising key_of) (rows_append b (entries_of blocks)) rising) in
    let here : AreBelow key_of key (rows_of b) = each_weaker (λ x. AreAbove key_of (key_of x) (rows_of (entries_of blocks))) (λ x. key_cmp (key_of x) key ≡ Less)
    (λ x above. e (key_of x) (each_first (λ r. key_cmp (key_of x) (key_of r) ≡ Less) blocks k d rest (omega arith) above)) (rows_of b) apart in
    subst (AreBelow key_of key) (sym (rows_append b (entries_of (take k blocks))))
    (each_append (λ r. key_cmp (key_of r) key ≡ Less) (rows_of b) (rows_of (entries_of (take k blocks))) here
    (below_first key_of key blocks k d (rising_rest key_of b blocks rising) rest (omega arith) e))

-- behind the last block that doesn't begin above a key, or the first block
pub above_after : (key_of : ℕ → Key) (key : Key) (blocks : List (List Entry)) (u : ℕ)
    → AreAbove key_of key (rows_of (entries_of (drop u blocks))) → AreAbove key_of key (rows_of (entries_of (drop (u - 1 + 1) blocks)))
above_after key_of key [] zero h = h
above_after key_of key (b ∷ blocks) zero h =
    each_right (λ r. key_cmp key (key_of r) ≡ Less) (rows_of b) (rows_of (entries_of blocks)) (subst (AreAbove key_of key) (rows_append b (entries_of blocks)) h)
above_after key_of key blocks (suc u) h =
    let same : suc u ≡ suc u - 1 + 1 = omega arith in
    subst (λ k. AreAbove key_of key (rows_of (entries_of (drop k blocks)))) same h
