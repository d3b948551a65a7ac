-- What holds of the parts of a row cache.
use Rattle.std.specs.Prelude.{◌≡◌, ℕ, ◌≤◌, List}
use Rattle.rows.specs.Row.{Row, live}
use Rattle.regions.specs.Segments.{RegionState}
use Rattle.regions.specs.Shapes.{group_count, shape}
use Rattle.regions.specs.Counts.{live_total}
use Rattle.regions.specs.Contents.{live_at}
use Rattle.row_cache.specs.Rows.{rows_at, AreGrouped, AreRelinked, Stay}
use Rattle.row_cache.specs.inside.Tables.{TableState, AreTablesOf}
use Rattle.row_cache.specs.inside.Chained.{IsLinked}

-- the rows of these numbers, and all rows, the one used last in front
abbrev pub rows_with : TableState → RegionState → List ℕ → List Row
rows_with t r numbers = rows_at (live_at r) t.places numbers

abbrev pub rows_in : TableState → RegionState → List Row
rows_in t r = rows_with t r t.recency

-- the tables are those of the live objects, whose bytes are those of the rows
pub record IsCounted (t : TableState) (r : RegionState) : Type 0 where
  pub tables : AreTablesOf t (live_at r)
  pub sizes : live (rows_in t r) ≡ live_total r

-- there are groups for the rows
abbrev pub HasGroups : RegionState → Type 0
HasGroups r = 1 ≤ group_count r

-- besides, the rows of the tables are linked in the order of their use, each of them once, and each is of its table's group
pub record IsConsistent (t : TableState) (r : RegionState) : Type 0 where
  pub some : HasGroups r
  pub counted : IsCounted t r
  pub chain : IsLinked t (live_at r)
  pub grouped : AreGrouped r

-- the tables are those of the live objects, which are linked in the order of their use, and nothing but links has changed
pub record Relinks (t : TableState) (r s : RegionState) : Type 0 where
  pub tables : AreTablesOf t (live_at s)
  pub linked : IsLinked t (live_at s)
  pub same : AreRelinked r s

-- the tables have room for as many rows, the segments have the same shape, and each object that stood stands
pub record KeepsParts (t u : TableState) (r s : RegionState) : Type 0 where
  pub room : u.room ≡ t.room
  pub shape : shape s ≡ shape r
  pub stay : Stay r s
