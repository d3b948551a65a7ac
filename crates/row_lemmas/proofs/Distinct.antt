-- The rows of a cache have distinct keys, and keep them.
use Rattle.std.proofs.Common.{◌≡◌, ℕ, suc, zero, Bool, true, false, not, ◌||◌, cond, List, [], ◌∷◌, take, filter, Option, Some, None, refl, ap, sym, subst}
use Rattle.rows.specs.declared.kind.Kind.{Kind}
use Rattle.rows.specs.declared.kind.Kind.TheVariants as kinds
use Rattle.rows.specs.Key.{Key}
use Rattle.rows.specs.Operation.{Operation}
use Rattle.rows.specs.Row.{Row}
use Rattle.rows.specs.Apply.{apply_kind, get_where, has, is_of, row_of, without, HasDistinctKeys}
use Rattle.row_lemmas.proofs.Keys.{is_same_key-Decides}

has-cond : (key : Key) (b : Bool) (row : Row) (rows : List Row) → (is_of key row || has key rows) ≡ false → has key rows ≡ false
    → has key (cond b (row ∷ rows) rows) ≡ false
has-cond key true row rows neither rest = neither
has-cond key false row rows neither rest = rest

or-false : (a b : Bool) → (a || b) ≡ false → (a ≡ false) × (b ≡ false)
or-false true b e = cc
or-false false b e = (refl, e)

or-neither : (a b : Bool) → a ≡ false → b ≡ false → (a || b) ≡ false
or-neither true b p q = p
or-neither false b p q = q

has-filter : (key : Key) (p : Row → Bool) (rows : List Row) → has key rows ≡ false → has key (filter p rows) ≡ false
has-filter key p [] none = refl
has-filter key p (row ∷ rows) none =
    let parts = or-false (is_of key row) (has key rows) none in
    let rest = has-filter key p rows parts.1 in
    has-cond key (p row) row (filter p rows) (or-neither (is_of key row) (has key (filter p rows)) parts.0 rest) rest

distinct-cond : (b : Bool) (row : Row) (rows : List Row) → has row.key rows ≡ false → HasDistinctKeys rows → HasDistinctKeys (cond b (row ∷ rows) rows)
distinct-cond true row rows none rest = (none, rest)
distinct-cond false row rows none rest = rest

pub distinct-filter : (p : Row → Bool) (rows : List Row) → HasDistinctKeys rows → HasDistinctKeys (filter p rows)
distinct-filter p [] are = tt
distinct-filter p (row ∷ rows) are = distinct-cond (p row) row (filter p rows) (has-filter row.key p rows are.0) (distinct-filter p rows are.1)

without-cond : (key : Key) (b : Bool) (row : Row) (rows : List Row) → is_of key row ≡ b → has key rows ≡ false
    → has key (cond (not b) (row ∷ rows) rows) ≡ false
without-cond key true row rows is none = none
without-cond key false row rows is none = or-neither (is_of key row) (has key rows) is none

pub has-without : (key : Key) (rows : List Row) → has key (without key rows) ≡ false
has-without key [] = refl
has-without key (row ∷ rows) = without-cond key (is_of key row) row (without key rows) refl (has-without key rows)

absent-cond : (key : Key) (b : Bool) (row : Row) (rows others : List Row) → is_of key row ≡ b → (is_of key row || has key rows) ≡ false
    → (has key rows ≡ false → others ≡ rows) → cond (not b) (row ∷ others) others ≡ row ∷ rows
absent-cond key true row rows others is none more = let parts = or-false (is_of key row) (has key rows) none in cc
absent-cond key false row rows others is none more = ap (λ rs. row ∷ rs) (more (or-false (is_of key row) (has key rows) none).1)

-- where no row has the key all rows stay
pub without-absent : (key : Key) (rows : List Row) → has key rows ≡ false → without key rows ≡ rows
without-absent key [] none = refl
without-absent key (row ∷ rows) none = absent-cond key (is_of key row) row rows (without key rows) refl none (without-absent key rows)

-- a row of a key in front of the rows of other keys
pub distinct-front : (key : Key) (row : Row) (rows : List Row) → row.key ≡ key → HasDistinctKeys rows → HasDistinctKeys (row ∷ without key rows)
distinct-front key row rows same are = (
  subst (λ (k : Key). has k (without key rows) ≡ false) (sym same) (has-without key rows),
  distinct-filter (λ r. not (is_of key r)) rows are,
)

has-take : (key : Key) (n : ℕ) (rows : List Row) → has key rows ≡ false → has key (take n rows) ≡ false
has-take key zero rows none = refl
has-take key (suc n) [] none = refl
has-take key (suc n) (row ∷ rows) none =
    let parts = or-false (is_of key row) (has key rows) none in
    or-neither (is_of key row) (has key (take n rows)) parts.0 (has-take key n rows parts.1)

pub distinct-take : (n : ℕ) (rows : List Row) → HasDistinctKeys rows → HasDistinctKeys (take n rows)
distinct-take zero rows are = tt
distinct-take (suc n) [] are = tt
distinct-take (suc n) (row ∷ rows) are = (has-take row.key n rows are.0, distinct-take n rows are.1)

found-cond : (key : Key) (b : Bool) (row found : Row) (o : Option Row) → is_of key row ≡ b → (o ≡ Some found → is_of key found ≡ true)
    → cond b (Some row) o ≡ Some found → is_of key found ≡ true
found-cond key true row found o is later e = let same : row ≡ found = cc in rw (← same) is
found-cond key false row found o is later e = later e

found : (key : Key) (rows : List Row) (row : Row) → row_of key rows ≡ Some row → is_of key row ≡ true
found key [] row e = cc
found key (first ∷ rows) row e = found-cond key (is_of key first) first row (row_of key rows) refl (found key rows row) e

-- a row that was found, brought to the front
pub brought-distinct : (key : Key) (rows brought : List Row) (row : Row) → row_of key rows ≡ Some row → brought ≡ row ∷ without key rows
    → HasDistinctKeys rows → HasDistinctKeys brought
brought-distinct key rows brought row e is are =
    rw is (distinct-front key row rows ((is_same_key-Decides row.key key).0 (found key rows row e)) are)

got-distinct : (o : Option Row) (key : Key) (cache : List Row) → row_of key cache ≡ o → HasDistinctKeys cache → HasDistinctKeys (get_where o key cache).0
got-distinct None key cache e are = are
got-distinct (Some row) key cache e are =
    let same : row.key ≡ key = (is_same_key-Decides row.key key).0 (found key cache row e) in
    distinct-front key row cache same are

pub kind-distinct : (kind : Kind) (operation : Operation) (cache : List Row) → HasDistinctKeys cache → HasDistinctKeys (apply_kind kind operation cache).0
kind-distinct kinds.Put operation cache are = (has-without operation.key cache, distinct-filter (λ r. not (is_of operation.key r)) cache are)
kind-distinct kinds.Get operation cache are = got-distinct (row_of operation.key cache) operation.key cache refl are
kind-distinct kinds.Erase operation cache are = distinct-filter (λ r. not (is_of operation.key r)) cache are
kind-distinct kinds.Scan operation cache are = are
