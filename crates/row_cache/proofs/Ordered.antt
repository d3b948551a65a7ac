-- The keys of a table's rows in the order of the index are its keys in the order of their bytes.
use Rattle.std.proofs.Common.{◌≡◌, ℕ, suc, zero, ◌<◌, ◌≤◌, inl, inr, Bool, true, false, true≢false, cond, ◌==◌, List, [], ◌∷◌, map, filter, is_lt, IsPermutation, IsSorted, Equal, Greater, Less, sym, ap, ◌∙◌, refl, arith, add-one, ne_eqb, subst}
use Rattle.std.specs.Prelude.{All}
use Rattle.std.specs.Ordering.{is_le, nat_cmp, ordering_reverse, ordering_then}
use Rattle.std.specs.Cmp.Lexicographic.{slice_cmp}
use Rattle.std.proofs.lemmas.Bool.Decides.{eqb_tells, leb_tells, nat_tests}
use Rattle.std.proofs.lemmas.Cmp.{nat_list_cmp_total}
use Rattle.std.proofs.lemmas.List.Elements.{All-filter}
use Rattle.std.proofs.lemmas.List.Kept.{IsSortedBy-filter}
use Rattle.std.proofs.lemmas.List.Sorted.{IsPermutation-map, ranks_by}
use Rattle.rows.specs.Apply.{in_order, is_at_most, keys_in}
use Rattle.rows.specs.Key.{Key}
use Rattle.rows.specs.Row.{Row}
use Rattle.common_lemmas.specs.Lists.{times}
use Rattle.common_lemmas.proofs.Counts.{same-filter, same-permutation}
use Rattle.key_index.specs.Order.{key_cmp, AreAbove, AreRising, Each, rows_from}
use Rattle.key_table.specs.Table.{AreSame}
use Rattle.key_table.specs.Lazy.{Lazy, rows_in}
use Rattle.regions.specs.Stores.{Live}
use Rattle.row_cache.specs.Rows.{key_at, row_at, rows_at}
use Rattle.row_cache.specs.inside.Scanned.{keys_in_front}
use Rattle.row_cache.specs.inside.Tables.{TableState, AreTablesOf, HasRow}
use Rattle.row_cache.proofs.States.{all_listed}

-- ---- the order of keys, by their tables and by their bytes

tied : (x y : ℕ) → x ≡ y → nat_cmp x y ≡ Equal
tied x y e = grind (arith, nat_tests)

above : (x y : ℕ) → y < x → nat_cmp x y ≡ Greater
above x y h = grind (arith, nat_tests)

-- keys of one table are in the order of their bytes
cmp_in : (a b : Key) → a.table ≡ b.table → key_cmp a b ≡ slice_cmp nat_cmp a.bytes b.bytes
unfolding key_cmp
cmp_in a b e = ap (λ o. ordering_then o (slice_cmp nat_cmp a.bytes b.bytes)) (tied a.table b.table e)

table_at_most : (a b : Key) → is_le (key_cmp a b) ≡ true → a.table ≤ b.table
unfolding key_cmp
table_at_most a b e = elim (leb_tells a.table b.table) [
  | inl h ↦ h.1
  | inr h ↦ absurd (true≢false (sym e ∙ ap (λ o. is_le (ordering_then o (slice_cmp nat_cmp a.bytes b.bytes))) (above a.table b.table h.1)))
]

-- ---- rows of one table

abbrev bytes_of : (ℕ → Key) → ℕ → List ℕ
bytes_of key n = (key n).bytes

abbrev is_of_table : (ℕ → Key) → ℕ → ℕ → Bool
is_of_table key table n = (key n).table == table

each-filter : (P : ℕ → Type 0) (p : ℕ → Bool) (ns : List ℕ) → Each P ns → Each P (filter p ns)
each-filter P p [] h = tt
each-filter P p (n ∷ ns) h = keep (p n) (each-filter P p ns h.1)
  where
    keep : (b : Bool) → Each P (filter p ns) → Each P (cond b (n ∷ filter p ns) (filter p ns))
    keep true rest = (h.0, rest)
    keep false rest = rest

rising-filter : (key : ℕ → Key) (p : ℕ → Bool) (ns : List ℕ) → AreRising key ns → AreRising key (filter p ns)
rising-filter key p [] up = tt
rising-filter key p (n ∷ ns) up = keep (p n) (rising-filter key p ns up.1)
  where
    keep : (b : Bool) → AreRising key (filter p ns) → AreRising key (cond b (n ∷ filter p ns) (filter p ns))
    keep true rest = (each-filter (λ m. key_cmp (key n) (key m) ≡ Less) p ns up.0, rest)
    keep false rest = rest

of_one : (key : ℕ → Key) (table : ℕ) (ns : List ℕ) → Each (λ n. (key n).table ≡ table) (filter (is_of_table key table) ns)
of_one key table [] = tt
of_one key table (n ∷ ns) =
    let rest = of_one key table ns in let others = filter (is_of_table key table) ns in
    elim (eqb_tells (key n).table table) [
      | inl h ↦ subst (λ b. Each (λ m. (key m).table ≡ table) (cond b (n ∷ others) others)) (sym h.0) (h.1, rest)
      | inr h ↦ subst (λ b. Each (λ m. (key m).table ≡ table) (cond b (n ∷ others) others)) (sym h.0) rest
    ]

-- behind a row of a later table there is none of this one
no_more : (key : ℕ → Key) (table n : ℕ) (ns : List ℕ) → table < (key n).table → AreAbove key (key n) ns → filter (is_of_table key table) ns ≡ []
no_more key table n [] past up = refl
no_more key table n (m ∷ ns) past up =
    let later = table_at_most (key n) (key m) (ap is_le up.0) in let others = filter (is_of_table key table) ns in
    ap (λ b. cond b (m ∷ others) others) (ne_eqb (key m).table table (λ e. omega (arith, past, later, e))) ∙ no_more key table n ns past up.1

-- ---- what a scan comes upon

-- one row more, of the table or of another one
here_front : (key : ℕ → Key) (table n : ℕ) (from own : List ℕ) (p : ℕ → Bool) (b : Bool) → p n ≡ b → is_of_table key table n ≡ true
    → keys_in_front key table from ≡ map (bytes_of key) (filter p own) → keys_in_front key table (cond b (n ∷ from) from) ≡ map (bytes_of key) (filter p (n ∷ own))
here_front key table n from own p true is of rest =
    ap (λ b. cond b ((key n).bytes ∷ keys_in_front key table from) []) of
    ∙ (ap (λ (ks : List (List ℕ)). (key n).bytes ∷ ks) rest ∙ sym (ap (λ b. map (bytes_of key) (cond b (n ∷ filter p own) (filter p own))) is))
here_front key table n from own p false is of rest = rest ∙ sym (ap (λ b. map (bytes_of key) (cond b (n ∷ filter p own) (filter p own))) is)

elsewhere_front : (key : ℕ → Key) (table n : ℕ) (from own : List ℕ) (p : ℕ → Bool) (b : Bool) → is_of_table key table n ≡ false → (b ≡ true → own ≡ [])
    → keys_in_front key table from ≡ map (bytes_of key) (filter p own) → keys_in_front key table (cond b (n ∷ from) from) ≡ map (bytes_of key) (filter p own)
elsewhere_front key table n from own p true other none rest =
    ap (λ b. cond b ((key n).bytes ∷ keys_in_front key table from) []) other ∙ sym (ap (λ os. map (bytes_of key) (filter p os)) (none refl))
elsewhere_front key table n from own p false other none rest = rest

-- of the rows from a key on those of its table are in front
front_is : (key : ℕ → Key) (lo : Key) (ns : List ℕ) → AreRising key ns
    → keys_in_front key lo.table (rows_from key lo ns)
    ≡ map (bytes_of key) (filter (λ n. is_at_most lo.bytes (key n).bytes) (filter (is_of_table key lo.table) ns))
front_is key lo [] up = refl
front_is key lo (n ∷ ns) up =
    let rest = front_is key lo ns up.1 in
    let p : ℕ → Bool = λ m. is_at_most lo.bytes (key m).bytes in
    let from = rows_from key lo ns in let own = filter (is_of_table key lo.table) ns in
    elim (eqb_tells (key n).table lo.table) [
      | inl h ↦
          ap (λ b. keys_in_front key lo.table (cond b (n ∷ from) from)) (ap is_le (cmp_in lo (key n) (sym h.1)))
          ∙ (here_front key lo.table n from own p (p n) refl h.0 rest ∙ sym (ap (λ b. map (bytes_of key) (filter p (cond b (n ∷ own) own))) h.0))
      | inr h ↦
          (let far = h.1 in
          elsewhere_front key lo.table n from own p (is_le (key_cmp lo (key n))) h.0
          (λ is. let at_least = table_at_most lo (key n) is in no_more key lo.table n ns (omega (arith, at_least, far)) up.0) rest
          ∙ sym (ap (λ b. map (bytes_of key) (filter p (cond b (n ∷ own) own))) h.0))
    ]

filter-map : (p : List ℕ → Bool) (key : ℕ → List ℕ) (ns : List ℕ) → filter p (map key ns) ≡ map key (filter (λ n. p (key n)) ns)
filter-map p key [] = refl
filter-map p key (n ∷ ns) = go (p (key n)) (filter-map p key ns)
  where
    go : (b : Bool) → filter p (map key ns) ≡ map key (filter (λ m. p (key m)) ns)
        → cond b (key n ∷ filter p (map key ns)) (filter p (map key ns)) ≡ map key (cond b (n ∷ filter (λ m. p (key m)) ns) (filter (λ m. p (key m)) ns))
    go true ih = ap (λ (ks : List (List ℕ)). key n ∷ ks) ih
    go false ih = ih

-- keys of one table that rise are sorted by their bytes
sorted_bytes : (key : ℕ → Key) (table : ℕ) (ns : List ℕ) → AreRising key ns → Each (λ n. (key n).table ≡ table) ns → IsSorted (slice_cmp nat_cmp) (map (bytes_of key) ns)
sorted_bytes key table [] up of i d low high = absurd (omega arith)
sorted_bytes key table (n ∷ []) up of i d low high = absurd (omega arith)
sorted_bytes key table (n ∷ m ∷ ns) up of zero d low high =
    ap is_lt (nat_list_cmp_total.antisymm (key m).bytes (key n).bytes
    ∙ ap ordering_reverse (sym (cmp_in (key n) (key m) (of.0 ∙ sym of.1.0)) ∙ up.0.0))
sorted_bytes key table (n ∷ m ∷ ns) up of (suc i) d low high =
    rw add-one (rw add-one at (sorted_bytes key table (m ∷ ns) up.1 of.1 i d (omega arith) (omega arith)))

-- the keys of a table in front of the rows of an index from a key on, where others are the same rows
table_in_order : (key : ℕ → Key) (lo : Key) (others rows : List ℕ) → ((n : ℕ) → times n rows ≡ times n others) → AreRising key rows
    → ((keys sorted : List (List ℕ)) → IsPermutation keys sorted → IsSorted (slice_cmp nat_cmp) sorted → in_order keys ≡ sorted)
    → keys_in_front key lo.table (rows_from key lo rows)
    ≡ in_order (filter (is_at_most lo.bytes) (map (bytes_of key) (filter (is_of_table key lo.table) others)))
table_in_order key lo others rows same rising order =
    let of : ℕ → Bool = is_of_table key lo.table in
    let p : ℕ → Bool = λ n. is_at_most lo.bytes (key n).bytes in
    let in_rows = filter of rows in let in_others = filter of others in
    let both = same-filter p in_others in_rows (same-filter of others rows same) in
    let moved = IsPermutation-map (bytes_of key) (filter p in_others) (filter p in_rows) (same-permutation (filter p in_others) (filter p in_rows) both) in
    let rises = sorted_bytes key lo.table in_rows (rising-filter key of rows rising) (of_one key lo.table rows) in
    let sorted = IsSortedBy-filter (λ a b. is_lt (slice_cmp nat_cmp a b)) (ranks_by nat_list_cmp_total (λ k. k)) (is_at_most lo.bytes) (map (bytes_of key) in_rows) rises in
    front_is key lo rows rising
    ∙ sym (ap in_order (filter-map (is_at_most lo.bytes) (bytes_of key) in_others)
    ∙ order (map (bytes_of key) (filter p in_others)) (map (bytes_of key) (filter p in_rows)) moved (rw (filter-map (is_at_most lo.bytes) (bytes_of key) in_rows) at sorted))

-- the keys of a table, by the numbers of its rows
keys_by_number : (row : ℕ → Row) (table : ℕ) (ns : List ℕ)
    → keys_in table (map row ns) ≡ map (λ n. (row n).key.bytes) (filter (λ n. (row n).key.table == table) ns)
keys_by_number row table [] = refl
keys_by_number row table (n ∷ ns) = go ((row n).key.table == table) (keys_by_number row table ns)
  where
    go : (b : Bool) → keys_in table (map row ns) ≡ map (λ m. (row m).key.bytes) (filter (λ m. (row m).key.table == table) ns)
        → map (λ (r : Row). r.key.bytes) (cond b (row n ∷ filter (λ (r : Row). r.key.table == table) (map row ns)) (filter (λ (r : Row). r.key.table == table) (map row ns)))
        ≡ map (λ m. (row m).key.bytes) (cond b (n ∷ filter (λ m. (row m).key.table == table) ns) (filter (λ m. (row m).key.table == table) ns))
    go true ih = ap (λ (ks : List (List ℕ)). (row n).key.bytes ∷ ks) ih
    go false ih = ih

-- what the index of a cache's tables tells of the rows from a key on
pub rows_told : (t : TableState) (live : Live) (lo : Key) (key : ℕ → Key) (i : Lazy) (result : List ℕ) → AreTablesOf t live → i ≡ t.index → key ≡ key_at live t.places
    → ((keys sorted : List (List ℕ)) → IsPermutation keys sorted → IsSorted (slice_cmp nat_cmp) sorted → in_order keys ≡ sorted)
    → result ≡ rows_from key lo i.order.rows → AreRising key i.order.rows → AreSame (rows_in i) i.order.rows
    → All (HasRow live t.places) result
    × (keys_in_front (key_at live t.places) lo.table result ≡ in_order (filter (is_at_most lo.bytes) (keys_in lo.table (rows_at live t.places t.recency))))
rows_told t live lo key i result are index keys order told rising all =
    let k = key_at live t.places in
    let rows = i.order.rows in
    let is : result ≡ rows_from k lo rows = told ∙ ap (λ (f : ℕ → Key). rows_from f lo rows) keys in
    let same : (n : ℕ) → times n rows ≡ times n t.recency = λ n. sym (all n) ∙ (ap (λ (x : Lazy). times n (rows_in x)) index ∙ are.numbers.indexed n) in
    let readable = all_listed (HasRow live t.places) rows (λ n l. are.rows n (let e = same n in omega (arith, e, l))) in (
      subst (All (HasRow live t.places)) (sym is) (All-filter (λ n. is_le (key_cmp lo (k n))) (HasRow live t.places) rows readable),
      ap (keys_in_front k lo.table) is
          ∙ (table_in_order k lo t.recency rows same (subst (λ (f : ℕ → Key). AreRising f rows) keys rising) order
          ∙ sym (ap (λ ks. in_order (filter (is_at_most lo.bytes) ks)) (keys_by_number (row_at live t.places) lo.table t.recency))),
    )
