use Rattle.std.proofs.Common.{◌-◌, ◌≤◌}
use Rattle.regions.specs.Contents.{live_at}
use Rattle.row_cache.specs.Rows.{key_at}
use Rattle.row_cache.proofs.Written.{AreWritten}
use Rattle.row_cache.proofs.cache.scanning.write_keys.Given as goal

abbrev pub invariant-loop-scanned : goal.invariant-loop-scanned
invariant-loop-scanned l =
    AreWritten (key_at (live_at l.region) l.tables.places) l.table l.fn.rows l.rows l.scanned.keys l.scanned.bytes l.fn.into l.into × (l.scanned.keys ≤ l.count)

abbrev pub decreases-loop-scanned : goal.decreases-loop-scanned
decreases-loop-scanned l = l.count - l.scanned.keys
