-- What contracts see of a plain cache.
use Rattle.std.specs.Prelude.{ℕ, List}
use Rattle.rows.specs.Row.{Row}

pub record Cache : Type 0 where
  pub pages : ℕ
  -- 1, or one for each table
  pub regions : ℕ
  -- most recently used first
  pub rows : List Row
