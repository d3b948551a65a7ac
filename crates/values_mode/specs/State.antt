-- What contracts see of a value store that was opened.
use Rattle.std.specs.Prelude.{◌≡◌, ℕ}
use Rattle.fragments.specs.Store.{StoreState, values_of}
use Rattle.values_mode.specs.Text.{no_values}

-- the pages of its memory, and the values in its segments
pub record OpenStore : Type 0 where
  pub pages : ℕ
  pub values : StoreState

-- no name has a value
pub record IsEmpty (store : OpenStore) : Type 0 where
  pub values : values_of store.values ≡ no_values
