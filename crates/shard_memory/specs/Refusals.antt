-- Why no block is given.
use Rattle.std.specs.Prelude.{ℕ, ◌<◌, ◌≤◌}
use Rattle.layout.specs.Sizes.{greatest_block}
use Rattle.shard_memory.specs.Room.{Room, LacksBlock}
use Rattle.shard_memory.specs.Tickets.{HasIdle}
use Rattle.shard_memory.specs.Shards.{MemoryState}
use Rattle.shard_memory.specs.declared.share.Share.{Share}
use Rattle.shard_memory.specs.declared.give_refusal.GiveRefusal.{GiveRefusal}
use Rattle.shard_memory.specs.declared.give_refusal.GiveRefusal.TheVariants.{TooLarge, NoTicket, NoSpan}

-- a block that stays: it is larger than the greatest class; or no larger, and without room. No ticket is asked for
abbrev pub RefusesHere : Room → ℕ → GiveRefusal → Type 0
RefusesHere room size TooLarge = greatest_block < size
RefusesHere room size NoTicket = ⊥
RefusesHere room size NoSpan = (size ≤ greatest_block) × LacksBlock room size

-- a block that is lent: it is larger than the greatest class; or no larger, and no ticket of the share is idle; or one is, and there is no room
abbrev pub RefusesFor : MemoryState → Share → ℕ → GiveRefusal → Type 0
RefusesFor s share size TooLarge = greatest_block < size
RefusesFor s share size NoTicket = (size ≤ greatest_block) × ¬ HasIdle s.lent share
RefusesFor s share size NoSpan = (size ≤ greatest_block) × HasIdle s.lent share × LacksBlock s.room size
