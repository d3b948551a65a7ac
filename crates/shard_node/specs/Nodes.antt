-- What a caller sees of a node: one shard at work on its parts of a trace.
use Rattle.std.specs.Prelude.{◌≡◌, ℕ, ◌≤◌, List, Option}
use Rattle.layout.specs.Sizes.{fewest_table_pages, tables}
use Rattle.trace_text.specs.Trace.{Trace, regions}
use Rattle.run_log.specs.JournalState.{JournalState}
use Rattle.run_log.specs.Replies.{Replies}
use Rattle.shard_store.specs.Stores.{StoreState}
use Rattle.shard_node.specs.declared.waiting.Waiting.{Waiting}
pub use Rattle.part_lemmas.specs.Exchange.{Keeping, PeerState, others}

-- where the rows are of tables, as in version 2 of a trace, the pages are as many as these need
abbrev pub HasTablePages : Trace → ℕ → Type 0
HasTablePages trace pages = regions trace ≡ tables → fewest_table_pages ≤ pages

-- L is the type of the links, G that of the gate
pub record NodeState (L G : Type 0) : Type 0 where
  pub shard : ℕ
  -- how many shards there are
  pub shards : ℕ
  pub pages : ℕ
  pub trace : Trace
  -- its cache, and the blocks that it lent
  pub store : StoreState
  -- what it did
  pub journal : JournalState
  -- the replies to its own parts
  pub log : Replies
  -- the other shards, in rising order
  pub peers : List (PeerState L)
  -- how many of its own parts were begun
  pub begun : ℕ
  pub request : Option Waiting
  pub gate : G
  -- how many blocks of others it released
  pub tally : ℕ
  pub turns : ℕ
