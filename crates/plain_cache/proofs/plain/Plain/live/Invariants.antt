-- The live bytes of the rows so far.
use Rattle.std.proofs.Common.{◌≡◌, ◌*◌, ◌≤◌, map, take}
use Rattle.plain_cache.specs.inside.OwnedRow.{row_in}
use Rattle.rows.specs.Row.{live}
use Rattle.plain_cache.proofs.plain.Plain.live.Given as goal

abbrev pub invariant-loop-row : goal.invariant-loop-row
invariant-loop-row l = (l.live ≡ live (map row_in (take l.row-index l.row-items))) × (l.live ≤ 12296 * l.row-index)
