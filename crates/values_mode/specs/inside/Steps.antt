-- What a step needs of a store.
use Rattle.std.specs.Prelude.{◌≡◌, ◌≤◌, length}
use Rattle.regions.specs.Shapes.{guards_of, held_count}
use Rattle.fragments.specs.Store.{StoreState}
use Rattle.value_script.specs.Order.{names}

-- a store of a thousand names and three segments or more, on which no guard stands
pub record IsServing (s : StoreState) : Type 0 where
  pub many : length s.firsts ≡ names
  pub held : 3 ≤ held_count s.region
  pub unguarded : guards_of s.region 0 ≡ 0
