-- The first line is what stands before the first LF.
use Rattle.std.proofs.Common.{◌≡◌, ◌+◌, ◌∷◌, take, arith, sym, subst}
use Rattle.std.proofs.lemmas.List.{take_rest}
use Rattle.trace_text.specs.Reading.{lines, lines_from}
use Rattle.trace_text.proofs.Cuts.{cut_lines}
use Rattle.trace_text.proofs.PlainText.{plain_cut, plain_front_is}
use Rattle.trace_text.proofs.reading.cut_line.Goals as goal

pub returns-in_default-None-clause-lines : goal.returns-in_default-None-clause-lines
returns-in_default-None-clause-lines c line =
    rw c.strip_cr.ensures.line (rw (← c.cut_at_lf.ensures.parts, c.in_default-None.is-1) at (cut_lines line c.args.text.now))

pub returns-in_default-Some-clause-lines : goal.returns-in_default-Some-clause-lines
returns-in_default-Some-clause-lines c line =
    rw (c.strip_cr-in_default-Some.ensures.line, c.in_default-Some.is-1)
    (rw (← c.cut_at_lf.ensures.parts, c.in_default-Some.is-1) at (cut_lines line c.args.text.now))

pub returns-then-text-end-eq10-clause-lines : goal.returns-then-text-end-eq10-clause-lines
returns-then-text-end-eq10-clause-lines c line =
    let text = c.args.text.now in
    let end = c.plain_front-end.result in
    subst (λ rest. lines_from line (lines text) ≡ lines_from line (take end text ∷ lines rest)) (sym (take_rest text (end + 1)))
    (plain_cut text end (omega arith) c.plain_front-end.ensures.plain (omega arith) line)

pub returns-then-text-end-eq10-clause-sound : goal.returns-then-text-end-eq10-clause-sound
returns-then-text-end-eq10-clause-sound c _ =
    plain_front_is c.args.text.now c.plain_front-end.result c.plain_front-end.ensures.within c.plain_front-end.ensures.plain
