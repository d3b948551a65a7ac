-- Numbers below a bound, each once.
use Rattle.std.specs.Prelude.{ℕ, List}

pub record Numbers : Type 0 where
  pub bound : ℕ
  pub numbers : List ℕ
