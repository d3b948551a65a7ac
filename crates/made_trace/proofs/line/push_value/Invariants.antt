use Rattle.std.proofs.Common.{◌≡◌, ◌++◌, map}
use Rattle.std.specs.List.{range_with_len}
use Rattle.made_trace.specs.Made.{letter}
use Rattle.made_trace.proofs.line.push_value.Given as goal

-- the letters so far
abbrev pub invariant-loop-j : goal.invariant-loop-j
invariant-loop-j l = l.text.items ≡ l.initial.text.items ++ map (letter l.i) (range_with_len 0 l.j)
