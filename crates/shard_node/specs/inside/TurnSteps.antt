-- What the steps of a turn come to, from the shard as the turn began.
use Rattle.std.specs.Prelude.{◌≡◌, ℕ, true, false}
use Rattle.shard_store.specs.Lending.{LooksOnce}
use Rattle.shard_rings.specs.Lanes.{LinkEnd, Traffic}
use Rattle.shard_rings.specs.declared.link.Lane.{Lane}
use Rattle.shard_node.specs.declared.seen.Seen.{Seen}
use Rattle.shard_node.specs.declared.shard.Shard.{Shard}
use Rattle.shard_node.specs.Standing.{InStanding}
use Rattle.shard_node.specs.Turns.{GoesThroughGate, HasCause, IsIdle}
use Rattle.shard_node.specs.inside.Moves.{Goes, NonePassed, ReceivesNone, TellsFirst}
use Rattle.shard_node.specs.inside.Shards.{node_state}
use Rattle.shard_node.specs.inside.Steps.{IsStep}

module _ {L G : Type 0} (traffic : L → Traffic) (end : L → LinkEnd) where
  -- the first step: blocks may have come home, and nothing else has changed
  pub record ComesHome (old new : Shard L G) : Type 0 where
    pub step : IsStep traffic end old new
    pub received : (lane : Lane) → ReceivesNone traffic lane (node_state old) (node_state new)
    pub goes : Goes traffic (node_state old) (node_state new)
    pub same : node_state new ≡ record (node_state old) { store = (node_state new).store }
    pub looked : LooksOnce old.store new.store

  -- what was seen of the steps, but not whether blocks came home
  pub record SeesSteps (holds : G → ℕ) (lets : G → ℕ → ℕ → G → Type 0) (seen : Seen) (began now : Shard L G) : Type 0 where
    pub step : IsStep traffic end began now
    pub gate : GoesThroughGate lets (node_state began) (node_state now)
    pub goes : Goes traffic (node_state began) (node_state now)
    pub told : InStanding traffic (node_state began) → TellsFirst traffic holds seen.stray (node_state began) (node_state now)
    pub caused : InStanding traffic (node_state began) → seen.moved ≡ true
        → HasCause traffic holds (node_state began) (node_state now)
    pub held_up : InStanding traffic (node_state began) → seen.moved ≡ false → now.store.backs ≡ began.store.backs
        → IsIdle traffic holds (node_state began) (node_state now)
    pub quiet : seen.moved ≡ false → NonePassed traffic (node_state began) (node_state now)

  -- and whether they did
  pub record SeesTurn (holds : G → ℕ) (lets : G → ℕ → ℕ → G → Type 0) (seen : Seen) (began now : Shard L G) : Type 0 where
    pub step : IsStep traffic end began now
    pub gate : GoesThroughGate lets (node_state began) (node_state now)
    pub told : InStanding traffic (node_state began) → TellsFirst traffic holds seen.stray (node_state began) (node_state now)
    pub caused : InStanding traffic (node_state began) → seen.moved ≡ true
        → HasCause traffic holds (node_state began) (node_state now)
    pub held_up : InStanding traffic (node_state began) → seen.moved ≡ false
        → IsIdle traffic holds (node_state began) (node_state now)
    pub goes : Goes traffic (node_state began) (node_state now)
    pub quiet : seen.moved ≡ false → NonePassed traffic (node_state began) (node_state now)

  -- these are the steps behind the first one
  abbrev pub FollowsHome : (G → ℕ) → (G → ℕ → ℕ → G → Type 0) → Seen → Shard L G → Shard L G → Type 0
  FollowsHome holds lets seen old new = (began : Shard L G) → ComesHome began old → SeesSteps holds lets seen began new

  -- so many blocks had come home as the turn began: whether more have is seen too
  abbrev pub NotesHome : (G → ℕ) → (G → ℕ → ℕ → G → Type 0) → ℕ → Seen → Seen → Shard L G → Type 0
  NotesHome holds lets back old new shard = (began : Shard L G) → back ≡ began.store.backs → SeesSteps holds lets old began shard
      → SeesTurn holds lets new began shard
