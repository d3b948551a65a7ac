-- Two lists of keys made one.
use Rattle.std.specs.Prelude.{ℕ, List, [], ◌∷◌, if◌then◌else◌}
use Rattle.rows.specs.Apply.{is_at_most}

-- a key among others: it comes where it is at most the next of them, and behind it `after` says what comes of those that are left
abbrev pub put_among : List ℕ → (List (List ℕ) → List (List ℕ)) → List (List ℕ) → List (List ℕ)
put_among key after [] = key ∷ after []
put_among key after (other ∷ others) = if is_at_most key other then key ∷ after (other ∷ others) else other ∷ put_among key after others

-- of the first keys of both the lesser comes first
abbrev pub merged : List (List ℕ) → List (List ℕ) → List (List ℕ)
merged [] others = others
merged (key ∷ keys) others = put_among key (merged keys) others
