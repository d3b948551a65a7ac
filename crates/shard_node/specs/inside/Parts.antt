-- What a shard did with a part that it issues to itself.
use Rattle.std.specs.Prelude.{◌≡◌, ℕ, ◌+◌, length, slice_set, Some}
use Rattle.rows.specs.Operation.{Operation}
use Rattle.rows.specs.Apply.{Reply}
use Rattle.rows.specs.Spelled.{spelled}
use Rattle.run_log.specs.JournalState.{JournalState}
use Rattle.run_log.specs.Replies.{Replies}
use Rattle.shard_store.specs.Lending.{TakesBack}
use Rattle.shard_store.specs.Stores.{StoreState}
use Rattle.shard_store.specs.Works.{pressure}
use Rattle.shard_node.specs.inside.Did.{DoesAbove}

-- the reply to a part was added to the log
pub record LogsReply (part : ℕ) (reply : Reply) (old new : Replies) : Type 0 where
  pub replies : new.replies ≡ slice_set old.replies part (Some (spelled reply))
  pub room : new.room + length (spelled reply).1 ≡ old.room

-- The part was done on the store, and in the journal it stands behind the evictions that it took, each under pressure; the
-- log has its reply. Lent blocks may have come home, and none was lent.
pub record DoesPart (part : ℕ) (operation : Operation) (old new : StoreState) (before after : JournalState) (log logged : Replies) : Type 0 where
  pub reply : Reply
  pub works : DoesAbove (pressure old.pages old.lent old.regions) operation reply old new before after
  pub came : TakesBack old new
  pub logs : LogsReply part reply log logged
