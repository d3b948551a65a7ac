-- What went behind the text so far, and what is left of the part.
use Rattle.std.proofs.Common.{length, take, drop}
use Rattle.std.specs.List.{concat}
use Rattle.text_lemmas.specs.Writing.{Goes}
use Rattle.values_mode.proofs.answers.put_part.Given as goal

abbrev pub invariant-loop-piece : goal.invariant-loop-piece
invariant-loop-piece g l = Goes l.fn.out l.out (take l.fn.count (drop l.fn.at (concat l.fn.pieces))) (take l.left (drop l.skip (concat l.rest)))

abbrev pub decreases-loop-piece : goal.decreases-loop-piece
decreases-loop-piece g l = length l.rest
