-- What a shard did on its store, as its journal has it.
use Rattle.std.specs.Prelude.{◌≡◌, ◌⊎◌, ℕ, ◌*◌, ◌<◌, true, List, [], ◌∷◌, ◌++◌, length, map, Option}
use Rattle.layout.specs.Sizes.{key_room}
use Rattle.rows.specs.declared.kind.Kind.{Kind}
use Rattle.rows.specs.declared.kind.Kind.TheVariants as kinds
use Rattle.rows.specs.Operation.{Operation}
use Rattle.cache_model.specs.declared.entry.Entry.TheVariants.{Done, Evicted}
use Rattle.rows.specs.Key.{Key}
use Rattle.rows.specs.Row.{Row}
use Rattle.rows.specs.Apply.{Reply, apply, has}
use Rattle.rows.specs.Evictions.{Evicts}
use Rattle.run_log.specs.JournalState.{JournalState}
use Rattle.shard_store.specs.Lending.{value_length}
use Rattle.run_log.specs.Recorded.{Records}
use Rattle.shard_store.specs.Stores.{StoreState, IsSameStore}
use Rattle.shard_store.specs.Works.{floor_of}

-- Rows went in turn, each while more bytes were live than the bound, and were written down; then the command was done on the
-- rest, with the reply that it has there, and was written down.
pub record DoesAbove (bound : ℕ) (operation : Operation) (answer : Reply) (old new : StoreState)
    (before after : JournalState) : Type 0 where
  pub evicted : List ℕ
  pub rest : List Row
  pub evicts : Evicts bound old.rows evicted rest
  pub recorded : Records before after (map (λ put. Evicted put) evicted ++ Done operation.number ∷ [])
  pub rows : new.rows ≡ (apply operation rest).0
  pub reply : answer ≡ (apply operation rest).1
  pub same : IsSameStore old new

-- rows went in turn for a block, and were written down; nothing was done
pub record EvictsForBlock (old new : StoreState) (before after : JournalState) : Type 0 where
  pub evicted : List ℕ
  pub evicts : Evicts (floor_of old.pages old.lent old.regions) old.rows evicted new.rows
  pub recorded : Records before after (map (λ put. Evicted put) evicted)
  pub same : IsSameStore old new

-- a put of the key has a place for its row: the key has one, or one is free
abbrev pub HasPlace : Key → StoreState → Type 0
HasPlace key store = (has key store.rows ≡ true) ⊎ (length store.rows < store.room)

-- how many bytes of a reply's block its body has: for a get the length that is found first, for a scan room for each key
abbrev pub body_size : Kind → ℕ → Option Row → ℕ
body_size kinds.Get count found = value_length found
body_size kinds.Scan count found = key_room * count
body_size kinds.Put count found = 0
body_size kinds.Erase count found = 0
