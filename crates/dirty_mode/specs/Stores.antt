-- What contracts see of a store that was opened for a trace.
use Rattle.std.specs.Prelude.{◌≡◌, ℕ}
use Rattle.dirty_region.specs.State.{DirtyState, empty}

-- the pages that it has, and the queue with the segments in which the puts stand
pub record StoreState : Type 0 where
  pub pages : ℕ
  pub dirty : DirtyState

-- no put is held
pub record IsEmpty (store : StoreState) : Type 0 where
  pub queue : store.dirty.queue ≡ empty
