-- Those that were passed and those that are left are all.
use Rattle.std.proofs.Common.{◌≡◌, ◌+◌, length}
use Rattle.trace_text.specs.Parsed.{trace_in}
use Rattle.part_lemmas.specs.Due.{operations_for}
use Rattle.report_check.proofs.logs.own_commands.Given as goal

abbrev pub invariant-loop-rest : goal.invariant-loop-rest
invariant-loop-rest l = l.count + length l.rest.left ≡ length (operations_for (trace_in l.trace) l.trace.shards l.shard l.shard)

abbrev pub decreases-loop-rest : goal.decreases-loop-rest
decreases-loop-rest l = length l.rest.left
