-- A key whose row is found is one that a row has.
use Rattle.std.proofs.Common.{◌≡◌, Bool, true, false, ◌||◌, cond, List, [], ◌∷◌, Option, Some, None, refl}
use Rattle.rows.specs.Key.{Key}
use Rattle.rows.specs.Row.{Row}
use Rattle.rows.specs.Apply.{is_of, row_of, has}

first_or_later : (is_first is_later : Bool) (first row : Row) (later : Option Row) → (later ≡ Some row → is_later ≡ true) → cond is_first (Some first) later ≡ Some row → (is_first || is_later) ≡ true
first_or_later true is_later first row later h e = refl
first_or_later false is_later first row later h e = h e

pub found_has : (key : Key) (rows : List Row) (row : Row) → row_of key rows ≡ Some row → has key rows ≡ true
found_has key [] row e = absurd (let no : None ≡ Some row = e in cc)
found_has key (first ∷ rows) row e = first_or_later (is_of key first) (has key rows) first row (row_of key rows) (found_has key rows row) e
