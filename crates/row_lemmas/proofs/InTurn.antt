-- Evictions, one after another.
use Rattle.std.proofs.Common.{◌≡◌, ℕ, ◌+◌, ◌-◌, ◌<◌, true, List, [], ◌∷◌, ◌++◌, length, take, None, arith, refl, sym, ap}
use Rattle.std.specs.List.{last_or}
use Rattle.std.proofs.lemmas.List.{length-take-le}
use Rattle.rows.specs.Row.{Row, live, is_of_put}
use Rattle.rows.specs.Evictions.{Evicts}

pub none : (bound : ℕ) (cache : List Row) → Evicts bound cache [] cache
unfolding Evicts
none bound cache = refl

pub more : (bound q : ℕ) (cache rest : List Row) (puts : List ℕ) → Evicts bound cache puts rest → is_of_put q (last_or None rest) ≡ true → bound < live rest
    → Evicts bound cache (puts ++ q ∷ []) (take (length rest - 1) rest)
unfolding Evicts
more bound q cache rest [] evicts last higher = rw (sym evicts) (last, higher, refl)
more bound q cache rest (put ∷ puts) evicts last higher =
    (evicts.0, evicts.1, more bound q (take (length cache - 1) cache) rest puts evicts.2 last higher)

some-last : (q : ℕ) (cache : List Row) → is_of_put q (last_or None cache) ≡ true → 0 < length cache
some-last q [] last = cc
some-last q (row ∷ rows) last = omega arith

pub count : (bound : ℕ) (cache rest : List Row) (puts : List ℕ) → Evicts bound cache puts rest → length puts + length rest ≡ length cache
unfolding Evicts
count bound cache rest [] evicts = omega (arith, ap length evicts)
count bound cache rest (put ∷ puts) evicts =
    let some = some-last put cache evicts.0 in
    let one_less = length-take-le (length cache - 1) cache (omega arith) in
    let further = count bound (take (length cache - 1) cache) rest puts evicts.2 in
    omega arith
