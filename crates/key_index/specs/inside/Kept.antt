-- What an index keeps.
use Rattle.std.specs.Prelude.{◌≡◌, ℕ, ◌+◌, ◌*◌, ◌≤◌, List, length, All}
use Rattle.key_index.specs.inside.Blocks.{entries_of, lens_of, IsBlock}
use Rattle.key_index.specs.inside.Dense.{AreDense}
use Rattle.key_index.specs.inside.Stock.{Stock}
use Rattle.key_index.specs.declared.entries.Entry.{Entry}

-- blocks in use, and not too empty
pub record AreInUse (blocks : List (List Entry)) : Type 0 where
  pub are_blocks : All IsBlock blocks
  pub dense : AreDense (lens_of blocks)

-- the blocks of an index with so much room and so many rows: no call needs more than there may be
pub record AreKept (room count : ℕ) (blocks : Stock) : Type 0 where
  pub are_blocks : All IsBlock blocks.contents
  pub dense : AreDense (lens_of blocks.contents)
  pub enough : 2 * room + 258 ≤ 129 * blocks.most
  pub counted : count ≡ length (entries_of blocks.contents)
  pub within : count ≤ room
