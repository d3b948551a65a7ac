-- A dirty region, as its contracts see it.
use Rattle.std.specs.Prelude.{◌≡◌, ℕ, List, [], ◌∷◌, ◌++◌}
use Rattle.rows.specs.Key.{in_table}
use Rattle.regions.specs.Segments.{RegionState}
use Rattle.segmented_store.specs.Segments.{HoldsSegments}
use Rattle.dirty_region.specs.Queues.{Queue}

-- for how many puts it has room, the queue for which it stands, the position of the oldest put among all puts that ever came, modulo
-- 2^32, and the segments in which the puts stand
pub record DirtyState : Type 0 where
  pub room : ℕ
  pub queue : Queue
  pub first : ℕ
  pub region : RegionState

-- the room and the segments are as they were
pub record Keeps (old new : DirtyState) : Type 0 where
  pub room : new.room ≡ old.room
  pub segments : HoldsSegments old.region new.region

-- no put
abbrev pub empty : Queue
empty = record { puts = []; out = 0 }

-- the queue with a put more, of a key of table 0, which is the newest
abbrev pub with_put : List ℕ → List ℕ → ℕ → Queue → Queue
with_put key value number queue = record queue { puts = queue.puts ++ record { key = in_table 0 key; value = value; number = number } ∷ [] }
