-- Devices in memory, as their contracts see them.
use Rattle.std.specs.Prelude.{ℕ, ◌+◌, min, List}

-- a source: the bytes that are left, how many it gives at most in a call, the number of the next
-- call, the numbers of the calls that fail, and how many have failed
pub record SourceState : Type 0 where
  pub left : List ℕ
  pub most : ℕ
  pub next_call : ℕ
  pub failing : List ℕ
  pub faults : ℕ

-- a sink: the bytes that it holds, how many it takes in all, and how many writes have failed
pub record SinkState : Type 0 where
  pub bytes : List ℕ
  pub room : ℕ
  pub faults : ℕ

-- the number after n, where the greatest u64 stands still
abbrev pub number_after : ℕ → ℕ
number_after n = min (n + 1) 18446744073709551615
