-- What a call on rows in segments leaves as it was.
use Rattle.std.specs.Prelude.{◌≡◌}
use Rattle.segmented_store.specs.Segments.{HoldsSegments}
use Rattle.row_cache.specs.Rows.{CacheState}

-- for how many rows there is room, and the segments
pub record KeepsSegments (old new : CacheState) : Type 0 where
  pub room : new.room ≡ old.room
  pub segments : HoldsSegments old.region new.region
