-- How many live bytes segments of one group surely hold, where nothing is evicted.
use Rattle.std.specs.Prelude.{ℕ, ◌-◌, ◌*◌}
use Rattle.layout.specs.Sizes.{dense}

-- one segment stays free, and one may be all but empty; the others are dense before an object lacks room
abbrev pub room : ℕ → ℕ
room segments = (segments - 2) * dense
