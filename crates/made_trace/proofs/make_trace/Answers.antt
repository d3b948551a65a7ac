use Rattle.std.proofs.Common.{◌≡◌, ◌++◌, ◌+◌, ◌-◌, List, ℕ, ap, sym, subst, ◌∙◌, arith}
use Rattle.std.proofs.lemmas.List.{append-nil}
use Rattle.made_trace.specs.Made.{made, made_from, made_line, behind_line}
use Rattle.made_trace.proofs.Lines.{one_line, no_line, line_added}
use Rattle.made_trace.proofs.make_trace.Goals as goal

pub loop-i-preserved : goal.loop-i-preserved
loop-i-preserved c =
    let i = c.loop-i.i in
    let left = made_from (c.args.commands - (i + 1)) (i + 1 + 1) in
    subst (λ words. c.push_line.new.text.items ++ left words ≡ made c.args.number c.args.commands) (sym c.in_ok-push_line.ensures.words)
    (line_added c.loop-i.text.items (made_line (i + 1) c.loop-i.words) c.push_line.new.text.items (left (behind_line c.loop-i.words))
    (made c.args.number c.args.commands) (made_from (c.args.commands - i) (i + 1) c.loop-i.words)
    c.loop-i.invariant (one_line c.args.commands i c.loop-i.words c.loop-i-test.true) c.in_ok-push_line.ensures.text)

pub returns : goal.returns
returns c =
    let all_done : c.args.commands ≡ c.loop-i.i = omega (arith, c.loop-i-test.false, c.loop-i.auto.i-end) in
    sym (append-nil c.loop-i.text.items)
    ∙ (ap (λ (rest : List ℕ). c.loop-i.text.items ++ rest) (sym (no_line c.args.commands c.loop-i.i c.loop-i.words all_done)) ∙ c.loop-i.invariant)
