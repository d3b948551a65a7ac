-- A line ends at the first LF, or does not end.
use Rattle.std.proofs.Common.{◌+◌, ◌<◌, ◌∙◌, List, ap, arith, drop, length, sym}
use Rattle.std.specs.List.{slice_get}
use Rattle.std.proofs.lemmas.List.{take_rest}
use Rattle.report_check.specs.Lines.{Line, lines_of}
use Rattle.report_check.proofs.Cuts.{lines-none, lines-some}
use Rattle.report_check.proofs.line.cut_line.Goals as goal

pub returns-in-Some-clause-first : goal.returns-in-Some-clause-first
returns-in-Some-clause-first c =
    sym (ap (λ (lines : List Line). slice_get lines 0) (lines-some c.args.bytes.now c.in-Some.at (sym c.position_of_lf.ensures ∙ c.in-Some.is)))

pub returns-in-Some-clause-behind : goal.returns-in-Some-clause-behind
returns-in-Some-clause-behind c =
    ap lines_of (take_rest c.args.bytes.now (c.in-Some.at + 1))
    ∙ sym (ap (drop 1) (lines-some c.args.bytes.now c.in-Some.at (sym c.position_of_lf.ensures ∙ c.in-Some.is)))

pub returns-in-None-clause-first : goal.returns-in-None-clause-first
returns-in-None-clause-first c =
    let some : 0 < length c.args.bytes.now = grind arith in
    sym (ap (λ (lines : List Line). slice_get lines 0) (lines-none c.args.bytes.now some (sym c.position_of_lf.ensures ∙ c.in-None.is)))

pub returns-in-None-clause-behind : goal.returns-in-None-clause-behind
returns-in-None-clause-behind c =
    let some : 0 < length c.args.bytes.now = grind arith in
    sym (ap (drop 1) (lines-none c.args.bytes.now some (sym c.position_of_lf.ensures ∙ c.in-None.is)))
