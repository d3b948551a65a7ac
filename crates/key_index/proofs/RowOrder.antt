-- Rows in the order of their keys.
use Rattle.std.proofs.Common.{◌≡◌, ℕ, zero, suc, ◌+◌, ◌<◌, false, List, [], ◌∷◌, ◌++◌, length, take, drop, get_or, sym, subst, arith, add-one, Less, is_lt}
use Rattle.rows.specs.Key.{Key}
use Rattle.key_index.specs.Order.{key_cmp, Each, AreAbove, AreBelow, AreRising}
use Rattle.key_index.specs.inside.Blocks.{AreAtLeast}
use Rattle.std.proofs.lemmas.List.{get_or-map, length-map}
use Rattle.key_index.specs.declared.entries.Entry.{Entry}
use Rattle.key_index.specs.Lead.{rows_of}
use Rattle.key_index.proofs.KeyOrder.{less_less, least_less}

pub each_weaker : (P Q : ℕ → Type 0) → ((x : ℕ) → P x → Q x) → (xs : List ℕ) → Each P xs → Each Q xs
each_weaker P Q h [] e = tt
each_weaker P Q h (x ∷ xs) e = (h x e.0, each_weaker P Q h xs e.1)

pub each_append : (P : ℕ → Type 0) (xs ys : List ℕ) → Each P xs → Each P ys → Each P (xs ++ ys)
each_append P [] ys e f = f
each_append P (x ∷ xs) ys e f = (e.0, each_append P xs ys e.1 f)

pub each_left : (P : ℕ → Type 0) (xs ys : List ℕ) → Each P (xs ++ ys) → Each P xs
each_left P [] ys e = tt
each_left P (x ∷ xs) ys e = (e.0, each_left P xs ys e.1)

pub each_right : (P : ℕ → Type 0) (xs ys : List ℕ) → Each P (xs ++ ys) → Each P ys
each_right P [] ys e = e
each_right P (x ∷ xs) ys e = each_right P xs ys e.1

pub each_at : (P : ℕ → Type 0) (xs : List ℕ) (i d : ℕ) → i < length xs → Each P xs → P (get_or xs i d)
each_at P [] i d h e = absurd (omega arith)
each_at P (x ∷ xs) zero d h e = e.0
each_at P (x ∷ xs) (suc i) d h e = each_at P xs i d (omega arith) e.1

below_to : (key_of : ℕ → Key) (key : Key) (rows : List ℕ) (i d : ℕ) → AreRising key_of rows → i < length rows
    → key_cmp (key_of (get_or rows i d)) key ≡ Less → AreBelow key_of key (take (suc i) rows)
below_to key_of key [] i d rising h e = absurd (omega arith)
below_to key_of key (row ∷ rows) zero d rising h e = (e, tt)
below_to key_of key (row ∷ rows) (suc i) d rising h e =
    let here = each_at (λ r. key_cmp (key_of row) (key_of r) ≡ Less) rows i d (omega arith) rising.0 in
    (less_less (key_of row) (key_of (get_or rows i d)) key here e, below_to key_of key rows i d rising.1 (omega arith) e)

-- the rows up to one whose key is below a key
pub below_upto : (key_of : ℕ → Key) (key : Key) (rows : List ℕ) (i d : ℕ) → AreRising key_of rows → i < length rows
    → key_cmp (key_of (get_or rows i d)) key ≡ Less → AreBelow key_of key (take (i + 1) rows)
below_upto key_of key rows i d rising h e = subst (λ n. AreBelow key_of key (take n rows)) (sym (add-one i)) (below_to key_of key rows i d rising h e)

-- the rows from one on whose key is not below a key
pub least_from : (key_of : ℕ → Key) (key : Key) (rows : List ℕ) (i d : ℕ) → AreRising key_of rows → i < length rows
    → is_lt (key_cmp (key_of (get_or rows i d)) key) ≡ false → AreAtLeast key_of key (drop i rows)
least_from key_of key [] i d rising h e = absurd (omega arith)
least_from key_of key (row ∷ rows) zero d rising h e =
    (e, each_weaker (λ r. key_cmp (key_of row) (key_of r) ≡ Less) (λ r. is_lt (key_cmp (key_of r) key) ≡ false) (λ r f. least_less (key_of row) (key_of r) key e f) rows rising.0)
least_from key_of key (row ∷ rows) (suc i) d rising h e = least_from key_of key rows i d rising.1 (omega arith) e

pub rising_left : (key_of : ℕ → Key) (xs ys : List ℕ) → AreRising key_of (xs ++ ys) → AreRising key_of xs
rising_left key_of [] ys h = tt
rising_left key_of (x ∷ xs) ys h = (each_left (λ r. key_cmp (key_of x) (key_of r) ≡ Less) xs ys h.0, rising_left key_of xs ys h.1)

pub rising_right : (key_of : ℕ → Key) (xs ys : List ℕ) → AreRising key_of (xs ++ ys) → AreRising key_of ys
rising_right key_of [] ys h = h
rising_right key_of (x ∷ xs) ys h = rising_right key_of xs ys h.1

-- each row of the front is below each of the back
pub rising_apart : (key_of : ℕ → Key) (xs ys : List ℕ) → AreRising key_of (xs ++ ys) → Each (λ x. AreAbove key_of (key_of x) ys) xs
rising_apart key_of [] ys h = tt
rising_apart key_of (x ∷ xs) ys h = (each_right (λ r. key_cmp (key_of x) (key_of r) ≡ Less) xs ys h.0, rising_apart key_of xs ys h.1)

pub rising_append : (key_of : ℕ → Key) (xs ys : List ℕ) → AreRising key_of xs → AreRising key_of ys → Each (λ x. AreAbove key_of (key_of x) ys) xs → AreRising key_of (xs ++ ys)
rising_append key_of [] ys f g h = g
rising_append key_of (x ∷ xs) ys f g h =
    (each_append (λ r. key_cmp (key_of x) (key_of r) ≡ Less) xs ys f.0 h.0, rising_append key_of xs ys f.1 g h.1)

-- where the first key is above a key, all are
pub above_all : (key_of : ℕ → Key) (key : Key) (rows : List ℕ) (d : ℕ) → AreRising key_of rows → key_cmp key (key_of (get_or rows 0 d)) ≡ Less → AreAbove key_of key rows
above_all key_of key [] d h e = tt
above_all key_of key (row ∷ rows) d h e =
    (e, each_weaker (λ r. key_cmp (key_of row) (key_of r) ≡ Less) (λ r. key_cmp key (key_of r) ≡ Less) (λ r f. less_less key (key_of row) (key_of r) e f) rows h.0)

pub rising_insert : (key_of : ℕ → Key) (xs ys : List ℕ) (x : ℕ) → AreRising key_of (xs ++ ys) → AreBelow key_of (key_of x) xs → AreAbove key_of (key_of x) ys → AreRising key_of (xs ++ x ∷ ys)
rising_insert key_of [] ys x h below above = (above, h)
rising_insert key_of (y ∷ xs) ys x h below above = (
  each_append (λ r. key_cmp (key_of y) (key_of r) ≡ Less) xs (x ∷ ys) (each_left (λ r. key_cmp (key_of y) (key_of r) ≡ Less) xs ys h.0) (below.0, each_right (λ r. key_cmp (key_of y) (key_of r) ≡ Less) xs ys h.0),
  rising_insert key_of xs ys x h.1 below.1 above,
)

pub rising_remove : (key_of : ℕ → Key) (xs ys : List ℕ) (x : ℕ) → AreRising key_of (xs ++ x ∷ ys) → AreRising key_of (xs ++ ys)
rising_remove key_of [] ys x h = h.1
rising_remove key_of (y ∷ xs) ys x h = (
  each_append (λ r. key_cmp (key_of y) (key_of r) ≡ Less) xs ys (each_left (λ r. key_cmp (key_of y) (key_of r) ≡ Less) xs (x ∷ ys) h.0) (each_right (λ r. key_cmp (key_of y) (key_of r) ≡ Less) xs (x ∷ ys) h.0).1,
  rising_remove key_of xs ys x h.1,
)

-- ---- the same of entries

pub below_entry : (key_of : ℕ → Key) (key : Key) (entries : List Entry) (i : ℕ) (d : Entry) → AreRising key_of (rows_of entries) → i < length entries
    → key_cmp (key_of (get_or entries i d).row) key ≡ Less → AreBelow key_of key (take (i + 1) (rows_of entries))
below_entry key_of key entries i d rising h e =
    below_upto key_of key (rows_of entries) i 0 rising (subst (λ n. i < n) (sym (length-map entries (λ (x : Entry). x.row))) h)
    (subst (λ r. key_cmp (key_of r) key ≡ Less) (sym (get_or-map (λ (x : Entry). x.row) entries i d 0 h)) e)

pub least_entry : (key_of : ℕ → Key) (key : Key) (entries : List Entry) (i : ℕ) (d : Entry) → AreRising key_of (rows_of entries) → i < length entries
    → is_lt (key_cmp (key_of (get_or entries i d).row) key) ≡ false → AreAtLeast key_of key (drop i (rows_of entries))
least_entry key_of key entries i d rising h e =
    least_from key_of key (rows_of entries) i 0 rising (subst (λ n. i < n) (sym (length-map entries (λ (x : Entry). x.row))) h)
    (subst (λ r. is_lt (key_cmp (key_of r) key) ≡ false) (sym (get_or-map (λ (x : Entry). x.row) entries i d 0 h)) e)
