-- The commands so far, and the lines that are left, are those of the script.
use Rattle.std.proofs.Common.{length}
use Rattle.value_script.proofs.LinesRead.{Reads}
use Rattle.value_script.proofs.reading.commands_of.Given as goal

abbrev pub invariant-loop-rest : goal.invariant-loop-rest
invariant-loop-rest l = Reads l.bytes l.commands.items l.rest l.line

abbrev pub decreases-loop-rest : goal.decreases-loop-rest
decreases-loop-rest l = length l.rest
