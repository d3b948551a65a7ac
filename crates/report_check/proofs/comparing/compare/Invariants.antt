-- The text was compared as far as its rest.
use Rattle.std.proofs.Common.{length}
use Rattle.report_check.proofs.Differences.{Comparing}
use Rattle.report_check.proofs.comparing.compare.Given as goal

abbrev pub invariant-loop-rest : goal.invariant-loop-rest
invariant-loop-rest l = Comparing l.from.bytes.now l.from.line l.text l.rest l.left

abbrev pub decreases-loop-rest : goal.decreases-loop-rest
decreases-loop-rest l = length l.rest
