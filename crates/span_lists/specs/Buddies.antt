-- Buddies.
use Rattle.std.specs.Prelude.{ℕ, ◌^◌}
use Rattle.std.specs.Int.Bits.{bit_xor}

-- the first page of the other half of the span that is twice as long
abbrev pub buddy : ℕ → ℕ → ℕ
buddy first order = bit_xor first (2 ^ order)
