-- One line more was passed.
use Rattle.std.proofs.Common.{drop, ap, ◌∙◌, arith}
use Rattle.std.proofs.lemmas.List.{drop-drop}
use Rattle.report_check.specs.Lines.{lines_of}
use Rattle.report_check.proofs.line.skip_lines.Goals as goal

pub loop-preserved : goal.loop-preserved
loop-preserved c =
    let i = c.loop.invariant in let e = c.cut_line.ensures in
    let less = i.shorter in let same = e.no_longer in
    record {
      behind = e.behind ∙ ap (drop 1) i.behind ∙ drop-drop 1 c.loop.counter (lines_of c.args.bytes.now);
      shorter = omega (arith, less, same);
    }
