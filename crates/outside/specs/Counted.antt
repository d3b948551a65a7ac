-- A reader or a writer of std beside the count of its failures.
use Rattle.std.specs.Prelude.{ℕ}

pub record Counted (D : Type 0) : Type 0 where
  pub device : D
  pub faults : ℕ
