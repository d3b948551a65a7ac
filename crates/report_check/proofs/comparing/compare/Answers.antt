-- One line more is the same, or the first that differs.
use Rattle.std.proofs.Common.{◌<◌, length, arith, refl, sym, ◌∙◌}
use Rattle.std.proofs.lemmas.List.{nil_from_length}
use Rattle.report_check.proofs.Differences.{compared-all, compared-first, tried-other, tried-same}
use Rattle.report_check.proofs.comparing.compare.Goals as goal

pub loop-rest-init : goal.loop-rest-init
loop-rest-init c = compared-first c.args.text.now c.args.from

pub loop-rest-preserved : goal.loop-rest-preserved
loop-rest-preserved c =
    let l = c.loop-rest in
    tried-same c.args.from.bytes.now c.args.from.line c.args.text.now l.rest.now c.cut_line.result.1.now c.cut_line-in-loop-rest.result.1.now l.left l.invariant c.cut_line.ensures.behind
    c.cut_line-in-loop-rest.ensures.behind _ _ c.cut_line-in-loop-rest.ensures.first c.cut_line.ensures.first _ c.cut_line-in-loop-rest.ensures.shorter (sym c.are_same.ensures ∙ c.if-not-are_same.false) refl refl

pub returns-then-not-are_same : goal.returns-then-not-are_same
returns-then-not-are_same c =
    let l = c.loop-rest in
    let some : 0 < length l.rest.now = grind arith in
    tried-other c.args.from.bytes.now c.args.from.line c.args.text.now l.rest.now c.cut_line.result.1.now c.cut_line-in-loop-rest.result.1.now l.left l.invariant c.cut_line.ensures.behind
    c.cut_line-in-loop-rest.ensures.behind _ _ c.cut_line-in-loop-rest.ensures.first c.cut_line.ensures.first some (sym c.are_same.ensures ∙ c.if-not-are_same.true)

pub returns : goal.returns
returns c = compared-all c.args.from.bytes.now c.args.from.line c.args.text.now c.loop-rest.rest.now c.loop-rest.left c.loop-rest.invariant (nil_from_length c.loop-rest.rest.now (grind arith))
