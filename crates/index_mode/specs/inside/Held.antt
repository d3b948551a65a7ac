-- An index in use.
use Rattle.std.specs.Prelude.{◌≡◌, ◌≤◌}
use Rattle.regions.specs.Shapes.{guards_of, held_count}
use Rattle.index_tree.specs.Store.{IndexState}

-- an index that commands can be done on
pub record IsServing (s : IndexState) : Type 0 where
  pub held : 3 ≤ held_count s.region
  pub unguarded : guards_of s.region 0 ≡ 0
