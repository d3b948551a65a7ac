-- Keys that rise, read one after the other.
use Rattle.std.specs.Prelude.{ℕ, Bool, true, false, List, [], ◌∷◌, ◌&&◌, if◌then◌else◌}
use Rattle.std.specs.Ordering.{is_lt, nat_cmp}
use Rattle.std.specs.Cmp.Lexicographic.{slice_cmp}
use Rattle.rows.specs.Apply.{is_at_most}

-- a key may come behind another: above it, or, where it is the first, at the other or above it
abbrev pub may_follow : Bool → List ℕ → List ℕ → Bool
may_follow is_first before key = if is_first then is_at_most before key else is_lt (slice_cmp nat_cmp before key)

-- so with each key and the one before it
abbrev pub rise : Bool → List ℕ → List (List ℕ) → Bool
rise is_first before [] = true
rise is_first before (key ∷ keys) = may_follow is_first before key && rise false key keys
