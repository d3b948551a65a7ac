-- Schedules that are drawn from a number.
use Rattle.std.specs.Prelude.{◌≡◌, ℕ, zero, suc, ◌+◌, ◌<◌, ◌%◌, List, [], ◌∷◌, length, All, sum_by}
use Rattle.rand_pcg.specs.Lcg.{Lcg, started, increment_of}
use Rattle.rand_pcg.specs.Pcg.{multiplier_64, pcg32}
use Rattle.layout.specs.Counts.{greatest_count}
use Rattle.shard_drive.specs.Drives.{Follows}

-- The words are those of the generator of 64 bits that is started with the number on stream 1. A word is drawn from
-- a state, and the next one from the state behind it.
abbrev pub first_state : ℕ → Lcg
first_state number = started 64 multiplier_64 number (increment_of 64 1)

abbrev pub word : Lcg → ℕ
word state = (pcg32 state).0

abbrev pub behind : Lcg → Lcg
behind state = (pcg32 state).1

-- which of n nodes the next m words name
abbrev pub named : ℕ → ℕ → Lcg → List ℕ
named n zero state = []
named n (suc m) state = word state % n ∷ named n m (behind state)

-- the schedule that the first m words of a number make for n nodes
abbrev pub drawn : ℕ → ℕ → ℕ → List ℕ
drawn number n m = named n m (first_state number)

-- The nodes made the turns that the first words of the number give to them.
pub record FollowsWords {A : Type 0} (turns : A → ℕ) (number : ℕ) (old new : List A) : Type 0 where
  -- how many words were drawn, one for each turn
  pub words : ℕ
  pub follows : Follows turns (drawn number (length old) words) old new
  -- the counts rose by as much together, where none stands at the greatest
  pub sum : All (λ node. turns node < greatest_count) new → sum_by turns new ≡ sum_by turns old + words
