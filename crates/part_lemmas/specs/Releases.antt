-- Blocks that wait to be released, and the one try that each has in a turn.
use Rattle.std.specs.Prelude.{◌≡◌, ℕ, ◌+◌, ◌≤◌, min, Option, Some, None}
use Rattle.foreign_list.specs.Blocks.{Block, raced}
use Rattle.layout.specs.Counts.{counted, greatest_count}
use Rattle.shard_rings.specs.Lanes.{Lanes}
use Rattle.part_lemmas.specs.Exchange.{one_if}

-- Nothing waited; or the block is on its list, and was counted; or it saw the head of the list change, and waits on.
abbrev pub Tries : Option Block → Option Block → ℕ → ℕ → Type 0
Tries None later count count' = (later ≡ None) × (count' ≡ count)
Tries (Some block) None count count' = count' ≡ counted count
Tries (Some block) (Some later) count count' = ((found : Option ℕ) × (later ≡ raced block found)) × (count' ≡ count)

-- so on both lanes, that of requests first
pub record TriesBoth (old new : Lanes (Option Block)) (count count' : ℕ) : Type 0 where
  pub between : ℕ
  pub requests : Tries old.requests new.requests count between
  pub replies : Tries old.replies new.replies between count'

-- how many blocks wait to be released
abbrev pub held_count : Lanes (Option Block) → ℕ
held_count held = one_if held.requests + one_if held.replies

-- a tally of so many more
abbrev pub CountsOn : ℕ → ℕ → ℕ → Type 0
CountsOn more count count' = count ≤ greatest_count → count' ≡ min (count + more) greatest_count

-- of so many blocks these still wait, and the others were released and counted
pub record Releases (before after count count' : ℕ) : Type 0 where
  pub released : ℕ
  pub all : released + after ≡ before
  pub counts : CountsOn released count count'
