-- How many entries blocks have.
use Rattle.std.specs.Prelude.{ℕ}

-- a block at most
abbrev pub block_room : ℕ
block_room = 256

-- two neighbours more than these, together
abbrev pub half_block : ℕ
half_block = 128
