-- The keys of an arena, all of table 0.
use Rattle.std.specs.Prelude.{ℕ, ◌+◌, ◌*◌, ◌≤◌, length, slice_range}
use Rattle.rows.specs.Key.{Key, in_table}
use Rattle.timed.specs.declared.index.arena.Arena.{Arena}

abbrev pub has_row : Arena → ℕ → Type 0
has_row arena row = row * arena.width + arena.width ≤ length arena.bytes.items

abbrev pub key_of : Arena → ℕ → Key
key_of arena row = in_table 0 (slice_range arena.bytes.items (row * arena.width) (row * arena.width + arena.width))
