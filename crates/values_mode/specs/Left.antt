-- The values that a script leaves.
use Rattle.std.specs.Prelude.{ℕ, ◌/◌, List, [], ◌∷◌}
use Rattle.layout.specs.Sizes.{segment_pages}
use Rattle.segmented_store.specs.Room.{room}
use Rattle.fragments.specs.Values.{Values}
use Rattle.value_script.specs.Order.{Order}
use Rattle.values_mode.specs.Text.{done, no_values}

-- the values behind these commands
abbrev pub values_after : ℕ → Values → List Order → Values
values_after bytes values [] = values
values_after bytes values (order ∷ later) = values_after bytes (done bytes values order).0 later

-- the values that a script leaves, with so many pages
unfoldable pub values_left : List Order → ℕ → Values
values_left script pages = values_after (room (pages / segment_pages)) no_values script
