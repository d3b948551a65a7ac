-- The lead of a key that is sought.
use Rattle.std.specs.Prelude.{◌≡◌, ◌≤◌, length}
use Rattle.rows.specs.Key.{Key}
use Rattle.key_index.specs.Lead.{lead_behind, AreBytes}
use Rattle.key_index.specs.declared.entries.Sought.{Sought}

-- the lead of a key behind what is skipped
pub record IsSought (key : Key) (sought : Sought) : Type 0 where
  pub fits : sought.skip ≤ length key.bytes
  pub lead : sought.lead ≡ lead_behind sought.skip key
  pub bytes : AreBytes key.bytes
