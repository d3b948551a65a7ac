-- Spans that were taken, as a test notes them.
use Rattle.std.specs.Prelude.{◌≡◌, ℕ, List, Option, Some, None, slice_index_or}
use Rattle.span_lists.specs.Layout.{Layout, IsAllocated}

-- each span that the table has, by its first page, is allocated
abbrev pub AreTaken : Layout → List (Option ℕ) → Type 0
AreTaken spans taken = (first order : ℕ) → slice_index_or taken first None ≡ Some order → IsAllocated spans first order
