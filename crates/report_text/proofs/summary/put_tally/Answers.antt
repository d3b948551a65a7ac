use Rattle.std.proofs.Common.{subst}
use Rattle.text_lemmas.specs.Writing.{Writes}
use Rattle.report_text.specs.inside.Tallies.{tally_in}
use Rattle.report_text.proofs.LineTexts.{tally_line_is}
use Rattle.report_text.proofs.summary.put_tally.Goals as goal

pub returns : goal.returns
returns g c =
    let line = rw (c.from.ensures, c.from-2.ensures, c.from-3.ensures, c.from-4.ensures, c.from-5.ensures, c.from-6.ensures) at c.put_field_line.ensures in
    subst (Writes _ _ _) (tally_line_is (tally_in c.args.tally.now)) line
