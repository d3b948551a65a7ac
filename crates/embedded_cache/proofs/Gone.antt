-- Rows that go one after another, the bytes that are left, and places in the tables.
use Rattle.std.proofs.Common.{◌≡◌, ◌⊎◌, inr, ℕ, zero, suc, ◌+◌, ◌-◌, ◌<◌, ◌≤◌, min, Bool, true, false, not, ◌||◌, cond, List, [], ◌∷◌, ◌++◌, length, take, Option, Some, None, refl, sym, ap, subst, ◌∙◌, arith, length-append}
use Rattle.std.specs.Prelude.{MatchOption, is_some}
use Rattle.std.proofs.lemmas.List.{length-take}
use Rattle.std.proofs.lemmas.List.Sums.{sum_by-cons}
use Rattle.rows.specs.Key.{Key}
use Rattle.rows.specs.Row.{Row, live, size}
use Rattle.rows.specs.Apply.{has, is_of, put, row_of, without}
use Rattle.rows.specs.Evictions.{Evicts}
use Rattle.regions.specs.declared.place.Place.{Place}
use Rattle.row_lemmas.proofs.Laws.{evictions_are_counted-count}
use Rattle.embedded_cache.specs.Puts.{Goes, Spares}

-- ---- evictions

-- above a lower bound
pub lower : (a b : ℕ) → b ≤ a → (rows : List Row) (tags : List ℕ) (rest : List Row) → Evicts a rows tags rest → Evicts b rows tags rest
unfolding Evicts
lower a b low rows [] rest e = e
lower a b low rows (tag ∷ tags) rest e = (e.0, (let above = e.1 in omega (arith, low, above)), lower a b low (take (length rows - 1) rows) tags rest e.2)

-- some, and then others
pub joined : (bound : ℕ) (rows mid rest : List Row) (tags more : List ℕ) → Evicts bound rows tags mid → Evicts bound mid more rest → Evicts bound rows (tags ++ more) rest
unfolding Evicts
joined bound rows mid rest [] more a b = subst (λ (x : List Row). Evicts bound x more rest) a b
joined bound rows mid rest (tag ∷ tags) more a b = (a.0, a.1, joined bound (take (length rows - 1) rows) mid rest tags more a.2 b)

pub min_first : (a b : ℕ) → min a b ≤ a
min_first a b = grind arith

pub min_second : (a b : ℕ) → min a b ≤ b
min_second a b = grind arith

-- ---- live bytes

-- where bytes are live there is a row
pub live_some : (n : ℕ) (rows : List Row) → n < live rows → 1 ≤ length rows
live_some n [] more = absurd (omega (arith, more))
live_some n (row ∷ rows) more = omega arith

live_front : (k : ℕ) (rows : List Row) → live (take k rows) ≤ live rows
live_front zero rows = omega arith
live_front (suc k) [] = omega arith
live_front (suc k) (row ∷ rows) =
    let a = sum_by-cons (λ (x : Row). size x.key.bytes x.value) row (take k rows) in let b = sum_by-cons (λ (x : Row). size x.key.bytes x.value) row rows in
    let rest = live_front k rows in omega (arith, a, b, rest)

live_where : (b : Bool) (row : Row) (some rows : List Row) → live some ≤ live rows → live (cond b (row ∷ some) some) ≤ live (row ∷ rows)
live_where true row some rows less =
    let a = sum_by-cons (λ (x : Row). size x.key.bytes x.value) row some in let b = sum_by-cons (λ (x : Row). size x.key.bytes x.value) row rows in omega (arith, a, b, less)
live_where false row some rows less = let b = sum_by-cons (λ (x : Row). size x.key.bytes x.value) row rows in omega (arith, b, less)

live_without : (key : Key) (rows : List Row) → live (without key rows) ≤ live rows
live_without key [] = omega arith
live_without key (row ∷ rows) = live_where (not (is_of key row)) row (without key rows) rows (live_without key rows)

pub live_put : (key : Key) (value : List ℕ) (tag : ℕ) (rest : List Row) → live (put key value tag rest).0 ≤ live rest + size key.bytes value
live_put key value tag rest =
    let first = sum_by-cons (λ (x : Row). size x.key.bytes x.value) (record { key = key; value = value; number = tag }) (without key rest) in
    let less = live_without key rest in omega (arith, first, less)

pub live_gone : (bound : ℕ) (rows rest : List Row) (tags : List ℕ) → Evicts bound rows tags rest → live rest ≤ live rows
unfolding Evicts
live_gone bound rows rest [] e = let same = ap live e in omega (arith, same)
live_gone bound rows rest (tag ∷ tags) e =
    let front = live_front (length rows - 1) rows in let more = live_gone bound (take (length rows - 1) rows) rest tags e.2 in omega (arith, front, more)

-- ---- places in the tables

-- where there was a place there is one
pub place_left : (room bound : ℕ) (key : Key) (rows rest : List Row) (tags : List ℕ) → Evicts bound rows tags rest → (has key rows ≡ true) ⊎ (length rows < room) → length rows ≤ room
    → (has key rest ≡ true) ⊎ (length rest < room)
unfolding Evicts
place_left room bound key rows rest [] e place few = subst (λ (x : List Row). (has key x ≡ true) ⊎ (length x < room)) (sym e) place
place_left room bound key rows rest (tag ∷ tags) e place few = let all = evictions_are_counted-count bound rows rest (tag ∷ tags) e in inr (omega (arith, all, few))

by_test : (b : Bool) (row : Row) (found : Option Row) (rest : Bool) → is_some found ≡ rest → is_some (cond b (Some row) found) ≡ b || rest
by_test true row found rest e = refl
by_test false row found rest e = e

pub found_has : (key : Key) (rows : List Row) → is_some (row_of key rows) ≡ has key rows
found_has key [] = refl
found_has key (row ∷ rows) = by_test (is_of key row) row (row_of key rows) (has key rows) (found_has key rows)

-- what a look-up tells
pub looked_up : (o : Option Place) (key : Key) (rows : List Row) (P Q : Place → Row → Type 0)
    → MatchOption o (row_of key rows ≡ None) (λ p. (row : Row) × (row_of key rows ≡ Some row) × P p row × Q p row)
    → has key rows ≡ is_some o
looked_up None key rows P Q none = sym (found_has key rows) ∙ ap is_some none
looked_up (Some p) key rows P Q found = sym (found_has key rows) ∙ ap is_some found.1

-- ---- all that went

few_spared : (room : ℕ) (key : Key) (rows kept : List Row) (tags : List ℕ) → Spares room key rows tags kept → (length tags ≤ 1) × (length kept ≤ length rows)
few_spared room key rows kept [] s = (omega arith, (let same = ap length s.1 in omega (arith, same)))
few_spared room key rows kept (tag ∷ []) s = (omega arith, (let same = ap length s.3 in let front = length-take (length rows - 1) rows in grind (arith, same, front)))
few_spared room key rows kept (tag ∷ other ∷ tags) s = absurd s

-- one more than there were rows went at most
pub few_gone : (room bound : ℕ) (key : Key) (rows rest : List Row) (tags : List ℕ) → Goes room bound key rows tags rest → length tags ≤ length rows + 1
few_gone room bound key rows rest tags g =
    let few = few_spared room key rows g.kept g.spared g.spares in let all = evictions_are_counted-count bound g.kept rest g.evicted g.evicts in
    let long = ap length g.all ∙ length-append g.spared g.evicted in
    let one = few.0 in let less = few.1 in omega (arith, one, less, all, long)
