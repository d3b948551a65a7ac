-- What waits to be sent over a link, and the one try that it has in a turn.
use Rattle.std.specs.Prelude.{◌≡◌, Bool, true, false, Option, Some, None}
use Rattle.foreign_list.specs.Blocks.{Block}
use Rattle.layout.specs.Counts.{Rose}
use Rattle.shard_rings.specs.Lanes.{NoneFell, adds, on, Traffic}
use Rattle.shard_rings.specs.declared.link.Lane.{Lane}
use Rattle.shard_rings.specs.declared.link.Lane.TheVariants.{Requests}
use Rattle.shard_rings.specs.declared.link.Packet.{Packet}
use Rattle.shard_rings.specs.declared.link.Packet.TheVariants.{Block as InBlock, Bye}

-- the packet is behind those that were sent on the lane
pub record IsSent (lane : Lane) (packet : Packet) (old new : Traffic) : Type 0 where
  pub sent : new.sent ≡ adds lane packet old.sent
  pub received : new.received ≡ old.received
  pub full : NoneFell old.full new.full
  pub empty : NoneFell old.empty new.empty

-- the lane was full
pub record IsRefused (lane : Lane) (old new : Traffic) : Type 0 where
  pub sent : new.sent ≡ old.sent
  pub received : new.received ≡ old.received
  pub rose : Rose (on lane old.full) (on lane new.full)
  pub full : NoneFell old.full new.full
  pub empty : NoneFell old.empty new.empty

-- nothing waited; or the block was sent; or the lane was full, and it waits on
abbrev pub SendsHeld : Lane → Option Block → Option Block → Traffic → Traffic → Type 0
SendsHeld lane None later old new = (later ≡ None) × (new ≡ old)
SendsHeld lane (Some block) None old new = IsSent lane (InBlock block) old new
SendsHeld lane (Some block) (Some later) old new = (later ≡ block) × IsRefused lane old new

-- Bye was said before; or it was sent; or the lane was full
abbrev pub TriesBye : Bool → Bool → Traffic → Traffic → Type 0
TriesBye true after old new = (after ≡ true) × (new ≡ old)
TriesBye false true old new = IsSent Requests Bye old new
TriesBye false false old new = IsRefused Requests old new
