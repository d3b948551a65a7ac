-- None is left of one more, or one is left of that.
use Rattle.std.proofs.Common.{◌≡◌, ◌<◌, All, [], length, arith, refl, sym, subst, ◌∙◌}
use Rattle.std.proofs.lemmas.List.{take_all}
use Rattle.std.proofs.lemmas.List.Elements.{All-more}
use Rattle.part_lemmas.specs.Rest.{RestState}
use Rattle.report_check.proofs.Passed.{none-left}
use Rattle.report_check.proofs.walking.are_done.Goals as goal

pub loop-rest-preserved : goal.loop-rest-preserved
loop-rest-preserved c =
    let test = c.loop-rest-test.true in
    let same = c.loop-rest.auto.rest-index-end in
    let within : c.loop-rest.rest-index < length c.args.rests.now = omega (arith, test, same) in
    All-more (λ (rest : RestState). rest.left ≡ []) c.args.rests.now c.loop-rest.rest-index c.rest-item.result within c.loop-rest.invariant
    (subst (λ (rest : RestState). rest.left ≡ []) c.rest-item.is (none-left c.first.result c.rest-item.result.left c.first.ensures.none (sym c.is_some.ensures ∙ c.if-is_some.false)))

pub returns : goal.returns
returns c =
    let test = c.loop-rest-test.false in
    let same = c.loop-rest.auto.rest-index-end in
    (λ is. subst (All (λ (rest : RestState). rest.left ≡ [])) (take_all c.loop-rest.rest-index c.args.rests.now (omega (arith, test, same))) c.loop-rest.invariant, λ all. refl)
