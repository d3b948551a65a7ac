use Rattle.std.proofs.Common.{◌≡◌, ◌++◌, ◌+◌, ◌-◌}
use Rattle.made_trace.specs.Made.{made, made_from}
use Rattle.made_trace.proofs.make_trace.Given as goal

-- the lines so far and those of what is left
abbrev pub invariant-loop-i : goal.invariant-loop-i
invariant-loop-i l = l.text.items ++ made_from (l.commands - l.i) (l.i + 1) l.words ≡ made l.number l.commands
