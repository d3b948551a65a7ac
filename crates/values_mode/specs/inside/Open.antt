-- What a value store that was opened keeps ready.
use Rattle.std.specs.Prelude.{◌≡◌, length}
use Rattle.fragments.specs.Store.{StoreState}
use Rattle.value_script.specs.Order.{names}

-- there are as many names as there have to be
pub record IsOpen (s : StoreState) : Type 0 where
  pub many : length s.firsts ≡ names
