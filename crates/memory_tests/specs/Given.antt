-- Allocated objects, one after another.
use Rattle.std.specs.Prelude.{ℕ, List, [], ◌∷◌, IsSome}
use Rattle.std.specs.Ordering.{nat_cmp}
use Rattle.std.specs.FinMap as map

-- each place is allocated, also after the ones before it are given back
abbrev pub AreAllocated : map.FinMap nat_cmp ℕ → List ℕ → Type 0
AreAllocated allocated [] = Unit {0}
AreAllocated allocated (place ∷ places) = IsSome (map.get allocated place) × AreAllocated (map.remove allocated place) places
