-- Evictions, one after another.
use Rattle.std.specs.Prelude.{◌≡◌, ℕ, ◌-◌, ◌<◌, true, List, [], ◌∷◌, length, take, None}
use Rattle.std.specs.List.{last_or}
use Rattle.rows.specs.Row.{Row, is_of_put, live}

-- the rows of these puts went in turn, and left the others: each was the last one while more bytes were live than the bound
unfoldable pub Evicts : ℕ → List Row → List ℕ → List Row → Type 0
Evicts bound cache [] rest = rest ≡ cache
Evicts bound cache (put ∷ puts) rest =
    (is_of_put put (last_or None cache) ≡ true) × (bound < live cache) × Evicts bound (take (length cache - 1) cache) puts rest
