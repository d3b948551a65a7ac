-- Distinct keys that are put in order rise strictly.
use Rattle.std.proofs.Common.{◌≡◌, ℕ, zero, suc, Bool, ◌||◌, true, false, cond, List, [], ◌∷◌, take, filter, map, eqb, eqb-true, ap, sym, ◌∙◌, subst, refl, true≢false, Ordering, Less, Equal, Greater}
use Rattle.std.specs.Ordering.{is_le, nat_cmp, ordering_reverse}
use Rattle.std.specs.Cmp.Lexicographic.{slice_cmp}
use Rattle.std.specs.List.{AllByRecursion}
use Rattle.std.specs.List.Sorted.{IsStrictlySortedBy}
use Rattle.std.proofs.lemmas.Cmp.{nat_list_cmp_total}
use Rattle.std.proofs.lemmas.Map.Lookups.{exact_bytes}
use Rattle.rows.specs.Apply.{is_at_most, put_in_order, in_order, is_of, has, keys_in, HasDistinctKeys}
use Rattle.rows.specs.Key.{Key}
use Rattle.rows.specs.Row.{Row}
use Rattle.row_lemmas.proofs.Keys.{is_same_key-Decides, one_key}
use Rattle.row_lemmas.proofs.KeyOrder.{IsInOrder, in_order-stays}

abbrev IsBelow : List ℕ → List ℕ → Type 0
IsBelow a b = slice_cmp nat_cmp a b ≡ Less

abbrev pub Rises : List (List ℕ) → Type 0
Rises keys = IsStrictlySortedBy (slice_cmp nat_cmp) keys

-- no two are the same
abbrev pub AreDistinct : List (List ℕ) → Type 0
AreDistinct [] = Unit {0}
AreDistinct (key ∷ keys) = AllByRecursion (λ other. key ≡ other → ⊥) keys × AreDistinct keys

-- ---- what holds of each element

pub each : {X : Type 0} (P Q : X → Type 0) → ((x : X) → P x → Q x) → (xs : List X) → AllByRecursion P xs → AllByRecursion Q xs
each P Q f [] all = tt
each P Q f (x ∷ xs) all = (f x all.0, each P Q f xs all.1)

pub each-take : {X : Type 0} (P : X → Type 0) (n : ℕ) (xs : List X) → AllByRecursion P xs → AllByRecursion P (take n xs)
each-take P zero xs all = tt
each-take P (suc n) [] all = tt
each-take P (suc n) (x ∷ xs) all = (all.0, each-take P n xs all.1)

pub each-filter : {X : Type 0} (P : X → Type 0) (p : X → Bool) (xs : List X) → AllByRecursion P xs → AllByRecursion P (filter p xs)
each-filter P p [] all = tt
each-filter P p (x ∷ xs) all = go (p x) (each-filter P p xs all.1)
  where
    go : (b : Bool) → AllByRecursion P (filter p xs) → AllByRecursion P (cond b (x ∷ filter p xs) (filter p xs))
    go true more = (all.0, more)
    go false more = more

-- what a filter leaves passes its test
pub passes-filter : {X : Type 0} (p : X → Bool) (xs : List X) → AllByRecursion (λ x. p x ≡ true) (filter p xs)
passes-filter p [] = tt
passes-filter p (x ∷ xs) = go (p x) refl (passes-filter p xs)
  where
    go : (b : Bool) → p x ≡ b → AllByRecursion (λ y. p y ≡ true) (filter p xs) → AllByRecursion (λ y. p y ≡ true) (cond b (x ∷ filter p xs) (filter p xs))
    go true e more = (e, more)
    go false e more = more

each-put : (P : List ℕ → Type 0) (key : List ℕ) (keys : List (List ℕ)) → P key → AllByRecursion P keys → AllByRecursion P (put_in_order key keys)
each-put P key [] here all = (here, tt)
each-put P key (c ∷ keys) here all = go (is_at_most key c) (each-put P key keys here all.1)
  where
    go : (b : Bool) → AllByRecursion P (put_in_order key keys) → AllByRecursion P (cond b (key ∷ c ∷ keys) (c ∷ put_in_order key keys))
    go true more = (here, all)
    go false more = (all.0, more)

pub each-in_order : (P : List ℕ → Type 0) (keys : List (List ℕ)) → AllByRecursion P keys → AllByRecursion P (in_order keys)
each-in_order P [] all = tt
each-in_order P (key ∷ keys) all = each-put P key (in_order keys) all.0 (each-in_order P keys all.1)

-- ---- the order

below : (a b : List ℕ) → is_at_most a b ≡ true → (a ≡ b → ⊥) → IsBelow a b
below a b most apart = go (slice_cmp nat_cmp a b) refl most
  where
    go : (o : Ordering) → slice_cmp nat_cmp a b ≡ o → is_le o ≡ true → IsBelow a b
    go Less e le = e
    go Equal e le = absurd (apart (exact_bytes a b e))
    go Greater e le = absurd (true≢false (sym le))

reversed_less : (o : Ordering) → is_le o ≡ false → ordering_reverse o ≡ Less
reversed_less Less e = absurd (true≢false e)
reversed_less Equal e = absurd (true≢false e)
reversed_less Greater e = refl

above : (a b : List ℕ) → is_at_most a b ≡ false → IsBelow b a
above a b e = nat_list_cmp_total.antisymm b a ∙ reversed_less (slice_cmp nat_cmp a b) e

rises-put : (key : List ℕ) (keys : List (List ℕ)) → AllByRecursion (λ other. key ≡ other → ⊥) keys → Rises keys → Rises (put_in_order key keys)
unfolding IsStrictlySortedBy
rises-put key [] apart up = (tt, tt)
rises-put key (c ∷ keys) apart up = go (is_at_most key c) refl (rises-put key keys apart.1 up.1)
  where
    go : (b : Bool) → is_at_most key c ≡ b → Rises (put_in_order key keys) → Rises (cond b (key ∷ c ∷ keys) (c ∷ put_in_order key keys))
    go true e more =
        let first = below key c e apart.0 in
        ((first, each (IsBelow c) (IsBelow key) (λ k next. nat_list_cmp_total.trans key c k first next) keys up.0), up)
    go false e more = (each-put (IsBelow c) key keys (above key c e) up.0, more)

rises-in_order : (keys : List (List ℕ)) → AreDistinct keys → Rises (in_order keys)
unfolding IsStrictlySortedBy
rises-in_order [] apart = tt
rises-in_order (key ∷ keys) apart =
    rises-put key (in_order keys) (each-in_order (λ other. key ≡ other → ⊥) keys apart.0) (rises-in_order keys apart.1)

rises-take : (n : ℕ) (keys : List (List ℕ)) → Rises keys → Rises (take n keys)
unfolding IsStrictlySortedBy
rises-take zero keys up = tt
rises-take (suc n) [] up = tt
rises-take (suc n) (key ∷ keys) up = (each-take (IsBelow key) n keys up.0, rises-take n keys up.1)

-- ---- the keys of a cache

distinct-filter : (p : List ℕ → Bool) (keys : List (List ℕ)) → AreDistinct keys → AreDistinct (filter p keys)
distinct-filter p [] apart = tt
distinct-filter p (key ∷ keys) apart = go (p key) (distinct-filter p keys apart.1)
  where
    go : (b : Bool) → AreDistinct (filter p keys) → AreDistinct (cond b (key ∷ filter p keys) (filter p keys))
    go true more = (each-filter (λ other. key ≡ other → ⊥) p keys apart.0, more)
    go false more = more

-- the bytes of a key are none of those of its table, where no row has the key
apart-from : (key : Key) (rows : List Row) → has key rows ≡ false → AllByRecursion (λ other. key.bytes ≡ other → ⊥) (keys_in key.table rows)
apart-from key [] none = tt
apart-from key (row ∷ rows) none = go (eqb row.key.table key.table) (is_of key row) refl refl none (apart-from key rows)
  where
    go : (t b : Bool) → eqb row.key.table key.table ≡ t → is_of key row ≡ b → (b || has key rows) ≡ false
        → (has key rows ≡ false → AllByRecursion (λ other. key.bytes ≡ other → ⊥) (keys_in key.table rows))
        → AllByRecursion (λ other. key.bytes ≡ other → ⊥)
        (map (λ (r : Row). r.key.bytes) (cond t (row ∷ filter (λ r. eqb r.key.table key.table) rows) (filter (λ r. eqb r.key.table key.table) rows)))
    go t true is e neither more = absurd (true≢false neither)
    go true false is e neither more =
        let tables : row.key.table ≡ key.table = eqb-true row.key.table key.table is in
        (λ same. true≢false (sym ((is_same_key-Decides row.key key).1 (one_key row.key key tables (sym same))) ∙ e), more neither)
    go false false is e neither more = more neither

distinct-keys : (table : ℕ) (cache : List Row) → HasDistinctKeys cache → AreDistinct (keys_in table cache)
distinct-keys table [] are = tt
distinct-keys table (row ∷ rows) are = go (eqb row.key.table table) refl (apart-from row.key rows are.0) (distinct-keys table rows are.1)
  where
    go : (t : Bool) → eqb row.key.table table ≡ t → AllByRecursion (λ other. row.key.bytes ≡ other → ⊥) (keys_in row.key.table rows)
        → AreDistinct (keys_in table rows)
        → AreDistinct (map (λ (r : Row). r.key.bytes) (cond t (row ∷ filter (λ r. eqb r.key.table table) rows) (filter (λ r. eqb r.key.table table) rows)))
    go true is apart more =
        let tables : row.key.table ≡ table = eqb-true row.key.table table is in
        (subst (λ (n : ℕ). AllByRecursion (λ other. row.key.bytes ≡ other → ⊥) (keys_in n rows)) tables apart, more)
    go false is apart more = more

-- the first keys of a table that pass a test, in order
pub scanned_rise : (n : ℕ) (p : List ℕ → Bool) (table : ℕ) (cache : List Row) → HasDistinctKeys cache → Rises (take n (in_order (filter p (keys_in table cache))))
scanned_rise n p table cache are =
    let keys = keys_in table cache in
    rises-take n (in_order (filter p keys)) (rises-in_order (filter p keys) (distinct-filter p keys (distinct-keys table cache are)))

-- ---- what rises is in order

in_order-rising : (keys : List (List ℕ)) → Rises keys → IsInOrder keys
unfolding IsStrictlySortedBy
in_order-rising [] up = tt
in_order-rising (key ∷ []) up = (tt, tt)
in_order-rising (key ∷ other ∷ keys) up = (ap is_le up.0.0, in_order-rising (other ∷ keys) up.1)

pub rising_stay : (keys : List (List ℕ)) → Rises keys → in_order keys ≡ keys
rising_stay keys up = in_order-stays keys (in_order-rising keys up)
