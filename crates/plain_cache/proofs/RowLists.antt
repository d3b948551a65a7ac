-- Lists of rows: as the plain cache is_row_of them, and as contracts see them.
use Rattle.std.proofs.Common.{◌≡◌, ℕ, suc, ◌+◌, ◌-◌, ◌<◌, ◌≤◌, Bool, true, false, not, ◌&&◌, ◌||◌, cond, List, [], ◌∷◌, ◌++◌, length, take, get_or, map, filter, Option, Some, None, arith, eqb, refl, sym, ap, subst, ◌∙◌, append-nil}
use denote.Ref.{Bor}
use Rattle.std.specs.List.{find, last_or, position, position_from, position_or_len, remove}
use Rattle.std.specs.Option.{option_map, is_some, IfNone, IfSome}
use Rattle.std.proofs.lemmas.Iterator.Adapters.{position_from-zero}
use Rattle.std.proofs.lemmas.List.{length-map, map-append, take-map, take_more}
use Rattle.std.proofs.lemmas.List.Elements.{filter-append}
use Rattle.std.proofs.lemmas.List.Folds.{find_at}
use Rattle.std.proofs.lemmas.List.Sums.{sum_by-append}
use Rattle.std.proofs.lemmas.Option.{cond_some, slice_get-get_or}
use borrow.Author.Tests.{ltb-true}
use Rattle.plain_cache.specs.declared.plain.OwnedRow.{OwnedRow}
use Rattle.rows.specs.Apply.{has, is_at_most, is_of, keys_in, row_of, without, HasDistinctKeys}
use Rattle.rows.specs.Key.{Key}
use Rattle.row_lemmas.proofs.Keys.{is_same_key-Decides}
use Rattle.plain_cache.specs.inside.OwnedRow.{row_in, is_from, IsPositionOf}
use Rattle.rows.specs.Row.{Row, live, size}

-- whether a row has this key
abbrev pub is_row_of : Key → OwnedRow → Bool
is_row_of key row = is_of key (row_in row)

is_some-cond : (b : Bool) (n : ℕ) (o : Option ℕ) → is_some (cond b (Some n) o) ≡ (b || is_some o)
is_some-cond true n o = refl
is_some-cond false n o = refl

any-from : (key : Key) (n : ℕ) (ks : List OwnedRow) → is_some (position_from (is_row_of key) n ks) ≡ has key (map row_in ks)
any-from key n [] = refl
any-from key n (k ∷ ks) =
    is_some-cond (is_row_of key k) n (position_from (is_row_of key) (n + 1) ks) ∙ ap (λ b. is_row_of key k || b) (any-from key (n + 1) ks)

-- a row is found where there is one
pub has-position : (key : Key) (ks : List OwnedRow) → is_some (position (is_row_of key) ks) ≡ has key (map row_in ks)
has-position key ks = ap is_some (position_from-zero (is_row_of key) ks) ∙ any-from key 0 ks

find-map : (key : Key) (ks : List OwnedRow) → row_of key (map row_in ks) ≡ option_map row_in (find (is_row_of key) ks)
find-map key [] = refl
find-map key (k ∷ ks) =
    ap (λ o. cond (is_row_of key k) (Some (row_in k)) o) (find-map key ks) ∙ option_map-cond (is_row_of key k) k (find (is_row_of key) ks)
  where
    option_map-cond : (b : Bool) (k : OwnedRow) (o : Option OwnedRow) → cond b (Some (row_in k)) (option_map row_in o) ≡ option_map row_in (cond b (Some k) o)
    option_map-cond true k o = refl
    option_map-cond false k o = refl

-- the row at the position found
pub row_of-position : (key : Key) (ks : List OwnedRow) (i : ℕ) (d : OwnedRow) → position (is_row_of key) ks ≡ Some i
    → row_of key (map row_in ks) ≡ Some (row_in (get_or ks i d))
row_of-position key ks i d at =
    let found = cond_some _ _ _ at in
    let within : position_or_len (is_row_of key) ks < length ks = ltb-true _ _ found.0 in
    rw (← found.1) (find-map key ks ∙ ap (option_map row_in) (find_at (is_row_of key) ks ∙ slice_get-get_or ks (position_or_len (is_row_of key) ks) d within))

-- Where keys are distinct, the rows of other keys are those without the row at the position found.
-- the rows of other keys are all rows where no row has the key
abbrev pub AbsentStays : Type 0
AbsentStays = (key : Key) (cache : List Row) → has key cache ≡ false → without key cache ≡ cache

pub remove-is : AbsentStays → (key : Key) (ks : List OwnedRow) → HasDistinctKeys (map row_in ks) → position_or_len (is_row_of key) ks < length ks
    → map row_in (remove ks (position_or_len (is_row_of key) ks)) ≡ without key (map row_in ks)
remove-is stays key [] are within = absurd (omega arith)
remove-is stays key (k ∷ ks) are within = go (is_row_of key k) (position_or_len (is_row_of key) ks) refl within (remove-is stays key ks are.1)
  where
    go : (b : Bool) (n : ℕ) → is_row_of key k ≡ b → cond (not b) (1 + n) 0 < length (k ∷ ks) → (n < length ks → map row_in (remove ks n) ≡ without key (map row_in ks))
        → map row_in (remove (k ∷ ks) (cond (not b) (1 + n) 0)) ≡ cond (not b) (row_in k ∷ without key (map row_in ks)) (without key (map row_in ks))
    go true n is within more =
        let same : (row_in k).key ≡ key = (is_same_key-Decides (row_in k).key key).0 is in
        let none : has key (map row_in ks) ≡ false = subst (λ (x : Key). has x (map row_in ks) ≡ false) same are.0 in
        sym (stays key (map row_in ks) none)
    go false n is within more =
        let next : 1 + n ≡ suc n = omega arith in
        ap (λ i. map row_in (remove (k ∷ ks) i)) next ∙ ap (λ rows. row_in k ∷ rows) (more (omega arith))

-- the position found is that of the row
pub is_position : AbsentStays → (key : Key) (ks : List OwnedRow) (i : ℕ) → position (is_row_of key) ks ≡ Some i → IsPositionOf key ks i
is_position stays key ks i at = record {
  within = let found = cond_some _ _ _ at in rw (← found.1) (ltb-true _ _ found.0);
  row = λ d. row_of-position key ks i d at;
  others = λ are. let found = cond_some _ _ _ at in rw (← found.1) (remove-is stays key ks are (ltb-true _ _ found.0));
}

find-none-at : (b : Bool) (n : ℕ) (k : OwnedRow) (o : Option ℕ) (p : Option OwnedRow) → (o ≡ None → p ≡ None)
    → cond b (Some n) o ≡ None → cond b (Some k) p ≡ None
find-none-at true n k o p later e = cc
find-none-at false n k o p later e = later e

find-none : (key : Key) (ks : List OwnedRow) (n : ℕ) → position_from (is_row_of key) n ks ≡ None → find (is_row_of key) ks ≡ None
find-none key [] n at = refl
find-none key (k ∷ ks) n at =
    find-none-at (is_row_of key k) n k (position_from (is_row_of key) (n + 1) ks) (find (is_row_of key) ks) (find-none key ks (n + 1)) at

absent : (key : Key) (ks : List OwnedRow) → position (is_row_of key) ks ≡ None → row_of key (map row_in ks) ≡ None
absent key ks at = find-map key ks ∙ ap (option_map row_in) (find-none key ks 0 (sym (position_from-zero (is_row_of key) ks) ∙ at))

pub absent_where : (key : Key) (ks : List OwnedRow) (o : Option ℕ) → o ≡ position (is_row_of key) ks
    → IfNone o (row_of key (map row_in ks) ≡ None)
absent_where key ks None e = absent key ks (sym e)
absent_where key ks (Some i) e = tt

pub is_position_where : AbsentStays → (key : Key) (ks : List OwnedRow) (o : Option ℕ) → o ≡ position (is_row_of key) ks → IfSome o (IsPositionOf key ks)
is_position_where stays key ks None e = tt
is_position_where stays key ks (Some i) e = is_position stays key ks i (sym e)

-- the rows before the last one
pub front-rows : (ks front : List OwnedRow) (n : ℕ) → n ≡ length ks → front ≡ take (n - 1) ks
    → map row_in front ≡ take (length (map row_in ks) - 1) (map row_in ks)
front-rows ks front n all is = rw (is, all, length-map, take-map) refl

-- the last row
pub last-map : (o : Option Row) (k : OwnedRow) (ks : List OwnedRow) (d : OwnedRow)
    → last_or o (map row_in (k ∷ ks)) ≡ Some (row_in (get_or (k ∷ ks) (length ks) d))
last-map o k [] d = refl
last-map o k (next ∷ ks) d = last-map (Some (row_in k)) next ks d

-- the live bytes, one row more
pub live-more : (ks : List OwnedRow) (i : ℕ) (d : OwnedRow) → i < length ks
    → live (map row_in (take (i + 1) ks)) ≡ live (map row_in (take i ks)) + size (get_or ks i d).key.items (get_or ks i d).value.items
live-more ks i d within =
    rw (take_more ks i d within, map-append, sum_by-append (λ row. size row.key.bytes row.value) (map row_in (take i ks)) (row_in (get_or ks i d) ∷ [])) (omega arith)

pub size-le : (key value : List ℕ) → length key ≤ 256 → length value ≤ 12000 → size key value ≤ 12296
size-le key value small_key small_value = omega arith

pub last-of : (ks : List OwnedRow) (k : OwnedRow) → 1 ≤ length ks → k ≡ get_or ks (length ks - 1) k → last_or None (map row_in ks) ≡ Some (row_in k)
last-of [] k some is = absurd (omega arith)
last-of (first ∷ ks) k some is =
    let at : length ks ≡ length (first ∷ ks) - 1 = omega arith in
    last-map None first ks k ∙ ap (λ row. Some (row_in row)) (ap (λ n. get_or (first ∷ ks) n k) at ∙ sym is)

-- the keys of a table from one on, of a row more
abbrev pub keys_from : Key → List OwnedRow → List (List ℕ)
keys_from key ks = filter (is_at_most key.bytes) (keys_in key.table (map row_in ks))

keys_from-more : (key : Key) (ks : List OwnedRow) (i : ℕ) (k : OwnedRow) → i < length ks → k ≡ get_or ks i k
    → keys_from key (take (i + 1) ks) ≡ keys_from key (take i ks) ++ keys_from key (k ∷ [])
keys_from-more key ks i k within is =
    let above = is_at_most key.bytes in
    let in_it : Row → Bool = λ row. eqb row.key.table key.table in
    let bytes_of : Row → List ℕ = λ row. row.key.bytes in
    let more : take (i + 1) ks ≡ take i ks ++ k ∷ [] = take_more ks i k within ∙ ap (λ x. take i ks ++ x ∷ []) (sym is) in
    ap (keys_from key) more
    ∙ ap (λ rows. filter above (map bytes_of (filter in_it rows))) (map-append row_in (take i ks) (k ∷ []))
    ∙ ap (λ rows. filter above (map bytes_of rows)) (filter-append in_it (map row_in (take i ks)) (row_in k ∷ []))
    ∙ ap (filter above) (map-append bytes_of (filter in_it (map row_in (take i ks))) (filter in_it (row_in k ∷ [])))
    ∙ filter-append above (map bytes_of (filter in_it (map row_in (take i ks)))) (map bytes_of (filter in_it (row_in k ∷ [])))

one-row : (key : Key) (k : OwnedRow) (is_in : Bool)
    → filter (is_at_most key.bytes) (map (λ (row : Row). row.key.bytes) (cond is_in (row_in k ∷ []) []))
    ≡ cond (is_in && is_at_most key.bytes k.key.items) (k.key.items ∷ []) []
one-row key k true = refl
one-row key k false = refl

-- of one row alone
keys_from-one : (key : Key) (k : OwnedRow) (from : Bool) → is_from key k ≡ from → keys_from key (k ∷ []) ≡ cond from (k.key.items ∷ []) []
keys_from-one key k from is = one-row key k (eqb k.table key.table) ∙ ap (λ (b : Bool). cond b (k.key.items ∷ []) []) is

pub key_added : (key : Key) (ks : List OwnedRow) (i : ℕ) (k : OwnedRow) (keys more : List (Bor (List ℕ))) (added : Bor (List ℕ))
    → i < length ks → k ≡ get_or ks i k → is_from key k ≡ true → added.now ≡ k.key.items → more ≡ keys ++ added ∷ []
    → map (λ found. found.now) keys ≡ keys_from key (take i ks) → map (λ found. found.now) more ≡ keys_from key (take (i + 1) ks)
key_added key ks i k keys more added within is from same all so_far =
    let one : keys_from key (k ∷ []) ≡ k.key.items ∷ [] = keys_from-one key k true from in
    ap (map (λ found. found.now)) all ∙ map-append (λ found. found.now) keys (added ∷ [])
    ∙ ap (λ ks. ks ++ added.now ∷ []) so_far ∙ ap (λ x. keys_from key (take i ks) ++ x ∷ []) same
    ∙ sym (keys_from-more key ks i k within is ∙ ap (λ x. keys_from key (take i ks) ++ x) one)

pub key_passed : (key : Key) (ks : List OwnedRow) (i : ℕ) (k : OwnedRow) (keys : List (Bor (List ℕ)))
    → i < length ks → k ≡ get_or ks i k → is_from key k ≡ false
    → map (λ found. found.now) keys ≡ keys_from key (take i ks) → map (λ found. found.now) keys ≡ keys_from key (take (i + 1) ks)
key_passed key ks i k keys within is not_from so_far =
    let none : keys_from key (k ∷ []) ≡ [] = keys_from-one key k false not_from in
    so_far ∙ sym (keys_from-more key ks i k within is ∙ ap (λ x. keys_from key (take i ks) ++ x) none ∙ append-nil (keys_from key (take i ks)))
