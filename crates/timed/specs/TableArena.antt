-- The keys of an arena, all of table 0: each in 24 bytes, of which the first is its length.
use Rattle.std.specs.Prelude.{ℕ, ◌+◌, ◌*◌, ◌≤◌, length, slice_index, slice_range}
use Rattle.rows.specs.Key.{Key, in_table}
use Rattle.timed.specs.declared.table.arena.Arena.{Arena}

abbrev pub has_row : Arena → ℕ → Type 0
has_row arena row = 24 * row + 1 + slice_index arena.bytes.items (24 * row) ≤ length arena.bytes.items

abbrev pub key_of : Arena → ℕ → Key
key_of arena row = in_table 0 (slice_range arena.bytes.items (24 * row + 1) (24 * row + 1 + slice_index arena.bytes.items (24 * row)))
