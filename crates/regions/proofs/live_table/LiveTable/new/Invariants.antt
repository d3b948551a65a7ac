use Rattle.std.proofs.Common.{◌≡◌, replicate}
use Rattle.regions.specs.inside.Consistent.{not_closed}
use Rattle.regions.proofs.live_table.LiveTable.new.Given as goal

abbrev pub invariant-loop-number : goal.invariant-loop-number
invariant-loop-number l = l.bytes.items ≡ replicate l._number not_closed
