-- Rows of a table beside strays.
use Rattle.std.proofs.Common.{◌≡◌, ◌≢◌, ℕ, suc, Bool, true, false, ◌+◌, ◌≤◌, inl, inr, List, [], ◌∷◌, ◌++◌, length, refl, sym, ap, subst, ◌∙◌, arith, length-append}
use Rattle.std.specs.Prelude.{All, Contains, Result, Ok, Err, MatchResult, ◌==◌, if◌then◌else◌}
use Rattle.std.proofs.lemmas.Bool.{cases_eq}
use Rattle.std.proofs.lemmas.List.{length-map}
use Rattle.std.proofs.lemmas.List.Elements.{All-nil, All-cons, All-contains}
use Rattle.common_lemmas.specs.Lists.{times}
use Rattle.rows.specs.Key.{Key}
use Rattle.common_lemmas.proofs.Counts.{times_here, times_there, times_cons_le}
use Rattle.key_index.specs.Order.{PutsIn, TakesOut}
use Rattle.key_index.specs.Index.{Index, IsIndexOf}
use Rattle.key_table.specs.declared.entries.RowAt.{RowAt}
use Rattle.key_table.specs.declared.entries.Spot.{Spot}
use Rattle.key_table.specs.Hash.{tag_of}
use Rattle.key_table.specs.Table.{Table, AreSame, IsSpotFor, IsTableOf, IsTagged, IsTagOf, rows_of}
use Rattle.key_table.specs.Table as tables
use Rattle.dirty_region.specs.inside.PutRows.{PutRows, rows_in, Has, IsKeyed, IsPutIndexOf, IsThere, AreApart}

-- ---- how often a list has a number

-- what holds of each number of a list
pub all_of : (P : ℕ → Type 0) (xs : List ℕ) → ((n : ℕ) → 1 ≤ times n xs → P n) → All P xs
all_of P [] is = All-nil P
all_of P (x ∷ xs) is =
    All-cons P x xs (is x (let h = times_here x xs in omega (arith, h))) (all_of P xs (λ n h. is n (let more = times_cons_le n x xs in omega (arith, more, h))))

pub contains_times : (xs : List ℕ) (x : ℕ) → Contains xs x → 1 ≤ times x xs
contains_times xs x there = All-contains (λ n. 1 ≤ times n xs) xs x (all_of (λ n. 1 ≤ times n xs) xs (λ n h. h)) there

pub times-append : (n : ℕ) (xs ys : List ℕ) → times n (xs ++ ys) ≡ times n xs + times n ys
times-append n [] ys = omega arith
times-append n (x ∷ xs) ys = ap (λ k. (if x == n then 1 else 0) + k) (times-append n xs ys) ∙ omega arith

middle : (row n : ℕ) (front back : List ℕ) → times n (front ++ row ∷ back) ≡ times n (row ∷ (front ++ back))
middle row n front back =
    let a = times-append n front (row ∷ back) in
    let b = times-append n front back in
    omega (arith, a, b)

pub put_times : (key_of : ℕ → Key) (row : ℕ) (before after : List ℕ) → PutsIn key_of row before after → AreSame (row ∷ before) after
put_times key_of row before after is = λ n. ap (λ xs. times n (row ∷ xs)) is.were ∙ (sym (middle row n is.front is.back) ∙ sym (ap (times n) is.are))

pub taken_times : (row : ℕ) (before after : List ℕ) → TakesOut row before after → AreSame before (row ∷ after)
taken_times row before after is = λ n. ap (times n) is.were ∙ (middle row n is.front is.back ∙ sym (ap (λ xs. times n (row ∷ xs)) is.are))

-- what holds of all holds of a number that is there
pub all_at : (P : ℕ → Type 0) (xs : List ℕ) → All P xs → (n : ℕ) → 1 ≤ times n xs → P n
all_at P [] all n h = absurd (omega arith)
all_at P (x ∷ xs) all n h = elim (cases_eq x n) [
  | inl e ↦ subst P e (all 0 0 (omega arith))
  | inr far ↦ all_at P xs (λ k d inside. all (suc k) d (omega (arith, inside))) n (subst (λ k. 1 ≤ k) (times_there n x xs far) h)
]

-- ---- the rows of an index

pub has_kept : (index : PutRows) (n : ℕ) → tables.Has index.table n → Has index n
has_kept index n h = let t = times-append n (rows_of index.table.kept) index.strays.rows in omega (arith, t, h)

pub has_stray : (index : PutRows) (n : ℕ) → 1 ≤ times n index.strays.rows → Has index n
has_stray index n h = let t = times-append n (rows_of index.table.kept) index.strays.rows in omega (arith, t, h)

pub sizes : (index : PutRows) → length (rows_in index) ≡ length index.table.kept + length index.strays.rows
sizes index = length-append (rows_of index.table.kept) index.strays.rows ∙ ap (λ n. n + length index.strays.rows) (length-map index.table.kept (λ (s : RowAt). s.row))

pub table_of : (has_row : ℕ → Type 0) (key_of : ℕ → Key) (index : PutRows) → IsPutIndexOf has_row key_of index → IsTableOf has_row key_of index.table
table_of has_row key_of index is = record { readable = λ n h. is.readable n (has_kept index n h); tagged = is.keyed.tagged }

pub strays_of : (has_row : ℕ → Type 0) (key_of : ℕ → Key) (index : PutRows) → IsPutIndexOf has_row key_of index → IsIndexOf has_row key_of index.strays
strays_of has_row key_of index is = record { readable = all_of has_row index.strays.rows (λ n h. is.readable n (has_stray index n h)); ordered = is.keyed.ordered }

-- the tag of a row's key is the one that the table has beside it
pub tag_there : (key_of : ℕ → Key) (table : Table) (found : RowAt) → IsTagged key_of table → found.tag ≡ tag_of (key_of found.row) → IsTagOf table found
tag_there key_of table found tagged is = λ k d inside e. tagged k d inside ∙ (ap (λ n. tag_of (key_of n)) e ∙ sym is)

pub kept_there : (key_of : ℕ → Key) (index : PutRows) (found : RowAt) → IsKeyed key_of index → Contains index.table.kept found → tables.Has index.table found.row → IsThere index found
kept_there key_of index found keyed there has = record {
  has = has_kept index found.row has;
  tag = tag_there key_of index.table found keyed.tagged (All-contains (λ (s : RowAt). s.tag ≡ tag_of (key_of s.row)) index.table.kept found keyed.tagged there);
}

-- what is found among the strays, where the table has no row of the key
pub stray_found : (key_of : ℕ → Key) (key : Key) (index : PutRows) (result : Result RowAt Spot) → IsKeyed key_of index → ((n : ℕ) → tables.Has index.table n → key_of n ≢ key)
    → MatchResult result (λ (found : RowAt). (1 ≤ times found.row index.strays.rows) × (found.tag ≡ tag_of key) × (key_of found.row ≡ key))
    (λ (spot : Spot). IsSpotFor key spot × ((n : ℕ) → 1 ≤ times n index.strays.rows → key_of n ≢ key))
    → MatchResult result (λ (found : RowAt). IsThere index found × (key_of found.row ≡ key)) (λ (spot : Spot). IsSpotFor key spot × ((n : ℕ) → Has index n → key_of n ≢ key))
stray_found key_of key index (Ok found) keyed none told = (
  record { has = has_stray index found.row told.0; tag = tag_there key_of index.table found keyed.tagged (told.1 ∙ sym (ap tag_of told.2)) },
  told.2,
)
stray_found key_of key index (Err spot) keyed none told = (
  told.0,
  λ n h. elim (cases_eq (times n index.strays.rows) 0) [
    | inl e ↦ none n (let t = times-append n (rows_of index.table.kept) index.strays.rows in omega (arith, t, h, e))
    | inr some ↦ told.1 n (omega (arith, some))
  ],
)

-- ---- rows come and go

pub none_listed : (n : ℕ) (xs : List ℕ) → length xs ≡ 0 → times n xs ≡ 0
none_listed n [] e = refl
none_listed n (x ∷ xs) e = absurd (omega (arith, e))

pub absent_row : (key_of : ℕ → Key) (row : ℕ) (xs : List ℕ) → ((n : ℕ) → 1 ≤ times n xs → key_of n ≢ key_of row) → times row xs ≡ 0
absent_row key_of row xs absent = elim (cases_eq (times row xs) 0) [ inl none ↦ none | inr some ↦ absurd (absent row (omega (arith, some)) refl) ]

more_of : (row : ℕ) (a b u x : List ℕ) → ((n : ℕ) → times n (row ∷ []) + (times n a + times n b) ≡ times n u + times n x) → AreSame (row ∷ (a ++ b)) (u ++ x)
more_of row a b u x all n = let s = all n in let t = times-append n a b in let v = times-append n u x in omega (arith, s, t, v)

pub kept_more : (row : ℕ) (t u : Table) (s : Index) → AreSame (row ∷ rows_of t.kept) (rows_of u.kept) → AreSame (row ∷ (rows_of t.kept ++ s.rows)) (rows_of u.kept ++ s.rows)
kept_more row t u s same = more_of row (rows_of t.kept) s.rows (rows_of u.kept) s.rows (λ n. (let e = same n in omega (arith, e)))

pub stray_more : (row : ℕ) (t u : Table) (s x : Index) → AreSame (rows_of t.kept) (rows_of u.kept) → AreSame (row ∷ s.rows) x.rows → AreSame (row ∷ (rows_of t.kept ++ s.rows)) (rows_of u.kept ++ x.rows)
stray_more row t u s x same more = more_of row (rows_of t.kept) s.rows (rows_of u.kept) x.rows (λ n. (let e = same n in let m = more n in omega (arith, e, m)))

pub kept_less : (row : ℕ) (t u : Table) (s : Index) → AreSame (rows_of t.kept) (row ∷ rows_of u.kept) → AreSame (rows_of t.kept ++ s.rows) (row ∷ (rows_of u.kept ++ s.rows))
kept_less row t u s same n = sym (more_of row (rows_of u.kept) s.rows (rows_of t.kept) s.rows (λ m. (let e = same m in omega (arith, e))) n)

pub stray_less : (row : ℕ) (t u : Table) (s x : Index) → u ≡ t → AreSame s.rows (row ∷ x.rows) → AreSame (rows_of t.kept ++ s.rows) (row ∷ (rows_of u.kept ++ x.rows))
stray_less row t u s x is same n =
    subst (λ (v : Table). times n (rows_of t.kept ++ s.rows) ≡ times n (row ∷ (rows_of v.kept ++ x.rows))) (sym is)
    (sym (more_of row (rows_of t.kept) x.rows (rows_of t.kept) s.rows (λ m. (let e = same m in omega (arith, e))) n))

-- one row more, which there was not
pub apart_more : (row : ℕ) (t u : Table) (s x : Index) → AreApart t s → times row (rows_of t.kept ++ s.rows) ≡ 0 → AreSame (row ∷ (rows_of t.kept ++ s.rows)) (rows_of u.kept ++ x.rows)
    → u.room ≡ t.room → x.room ≡ s.room → AreApart u x
apart_more row t u s x is absent same table_room room = record {
  once = λ n.
      (let e = same n in let a = times-append n (rows_of t.kept) s.rows in let b = times-append n (rows_of u.kept) x.rows in let o = is.once n in
      elim (cases_eq row n) [
        | inl here ↦ (let none : times n (rows_of t.kept ++ s.rows) ≡ 0 = subst (λ m. times m (rows_of t.kept ++ s.rows) ≡ 0) here absent in
            let one : times n (row ∷ (rows_of t.kept ++ s.rows)) ≡ 1 + times n (rows_of t.kept ++ s.rows) =
            subst (λ m. times n (m ∷ (rows_of t.kept ++ s.rows)) ≡ 1 + times n (rows_of t.kept ++ s.rows)) (sym here) (times_here n (rows_of t.kept ++ s.rows)) in
            omega (arith, e, b, none, one))
        | inr far ↦ (let none = times_there n row (rows_of t.kept ++ s.rows) far in omega (arith, e, a, b, o, none))
      ]);
  room = room ∙ (is.room ∙ sym table_room);
  small = (let small = is.small in omega (arith, small, table_room));
}

pub apart_less : (row : ℕ) (t u : Table) (s x : Index) → AreApart t s → AreSame (rows_of t.kept ++ s.rows) (row ∷ (rows_of u.kept ++ x.rows)) → u.room ≡ t.room → x.room ≡ s.room → AreApart u x
apart_less row t u s x is same table_room room = record {
  once = λ n.
      (let e = same n in let a = times-append n (rows_of t.kept) s.rows in let b = times-append n (rows_of u.kept) x.rows in let o = is.once n in
      let less = times_cons_le n row (rows_of u.kept ++ x.rows) in omega (arith, e, a, b, o, less));
  room = room ∙ (is.room ∙ sym table_room);
  small = (let small = is.small in omega (arith, small, table_room));
}

-- the table has not the row; it was a stray, or nothing changed
pub apart_left : (was : Bool) (row : ℕ) (t u : Table) (s x : Index) → AreApart t s → u ≡ t → x.room ≡ s.room → (was ≡ true → AreSame s.rows (row ∷ x.rows)) → (was ≡ false → x ≡ s) → AreApart u x
apart_left true row t u s x is same room less unchanged = apart_less row t u s x is (stray_less row t u s x same (less refl)) (ap (λ (v : Table). v.room) same) room
apart_left false row t u s x is same room less unchanged = subst (λ (v : Table). AreApart v x) (sym same) (subst (λ (y : Index). AreApart t y) (sym (unchanged refl)) is)

-- a row that is there is taken out
pub surely_out : (was : Bool) (row : ℕ) (index after : PutRows) → Has index row → (was ≡ true → AreSame (rows_in index) (row ∷ rows_in after)) → (was ≡ false → times row (rows_in index) ≡ 0)
    → AreSame (rows_in index) (row ∷ rows_in after)
surely_out true row index after has less absent = less refl
surely_out false row index after has less absent = absurd (let none = absent refl in omega (arith, none, has))
