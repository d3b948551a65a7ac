-- The first line is what stands before the first LF.
use Rattle.value_script.proofs.Cuts.{cut_lines}
use Rattle.value_script.proofs.lines.cut_line.Goals as goal

pub returns-in_default-None-clause-lines : goal.returns-in_default-None-clause-lines
returns-in_default-None-clause-lines c line =
    rw c.strip_cr.ensures.line (rw (← c.cut_at_lf.ensures.parts, c.in_default-None.is-1) at (cut_lines line c.args.text.now))

pub returns-in_default-Some-clause-lines : goal.returns-in_default-Some-clause-lines
returns-in_default-Some-clause-lines c line =
    rw (c.strip_cr-in_default-Some.ensures.line, c.in_default-Some.is-1)
    (rw (← c.cut_at_lf.ensures.parts, c.in_default-Some.is-1) at (cut_lines line c.args.text.now))
