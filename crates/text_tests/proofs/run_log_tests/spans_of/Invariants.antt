-- From the offset reached on the body is keys.
use Rattle.std.proofs.Common.{ℕ, ◌-◌, List, length}
use Rattle.rows.specs.KeyBody.{AreKeysAt}
use Rattle.text_tests.proofs.run_log_tests.spans_of.Given as goal

abbrev pub invariant-loop-span : goal.invariant-loop-span
invariant-loop-span l = (keys : List (List ℕ)) × AreKeysAt l.body l.at keys

abbrev pub decreases-loop-span : goal.decreases-loop-span
decreases-loop-span l = length l.body - l.at
