-- The bytes so far.
use Rattle.std.proofs.Common.{◌-◌, ◌≤◌, length}
use Rattle.trace_text.specs.inside.Plain.{ArePlain}
use Rattle.trace_text.proofs.plain.plain_front.Given as goal

abbrev pub invariant-loop-at : goal.invariant-loop-at
invariant-loop-at l = (l.at ≤ length l.text) × ArePlain l.text 0 l.at

abbrev pub decreases-loop-at : goal.decreases-loop-at
decreases-loop-at l = length l.text - l.at
