-- Which bytes of a range are allocated.
use Rattle.std.specs.Prelude.{ℕ, ◌+◌, Bool, ◌&&◌, nat_lt, nat_le, List}
use Rattle.std.specs.List.{list_any}
use Rattle.layout.specs.Extents.{Extent}

-- the byte i lies in the extent
abbrev pub covers : Extent → ℕ → Bool
covers a i = nat_le a.start i && nat_lt i (a.start + a.len)

-- the byte i lies in one of the extents
abbrev pub is_allocated : List Extent → ℕ → Bool
is_allocated extents i = list_any (λ a. covers a i) extents
