-- The commands of the lines so far stand behind the others.
use Rattle.std.proofs.Common.{take}
use Rattle.trace_text.specs.inside.Lines.{AddsCommands}
use Rattle.trace_text.proofs.reading_on.add_commands.Given as goal

abbrev pub invariant-loop-line : goal.invariant-loop-line
invariant-loop-line l = AddsCommands l.fn.commands (take l.line-index l.lines) l.commands
