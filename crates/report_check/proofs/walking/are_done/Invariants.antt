-- None is left of those so far.
use Rattle.std.proofs.Common.{◌≡◌, All, [], take}
use Rattle.part_lemmas.specs.Rest.{RestState}
use Rattle.report_check.proofs.walking.are_done.Given as goal

abbrev pub invariant-loop-rest : goal.invariant-loop-rest
invariant-loop-rest l = All (λ (rest : RestState). rest.left ≡ []) (take l.rest-index l.rests)
