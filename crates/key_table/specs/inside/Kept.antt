-- What a table keeps.
use Rattle.std.specs.Prelude.{◌≡◌, ℕ, ◌+◌, ◌≤◌, [], length}
use Rattle.std.specs.Vec.{vec_capacity}
use Rattle.std.specs.declared.vec.Vec.{Vec}
use Rattle.key_table.specs.declared.entries.RowAt.{RowAt}
use Rattle.key_table.specs.Table.{mask_of, reach}
use Rattle.key_table.specs.inside.Slots.{held, AreProbed}

-- the slots in use, and memory for the next ones: each is enough for the most slots of tags and those in reach behind them
pub record AreKept {Z : Type 0} (room count mask most : ℕ) (slots spare : Vec RowAt Z) : Type 0 where
  pub probed : AreProbed mask slots.items
  pub counted : count ≡ length (held slots.items)
  pub within : count ≤ room
  pub doubled : (times : ℕ) × (mask ≡ mask_of times)
  pub upto : mask ≤ most
  pub slots_fit : most + 1 + reach ≤ vec_capacity slots
  pub spare_fit : most + 1 + reach ≤ vec_capacity spare
  pub none_spare : spare.items ≡ []
