use Rattle.std.proofs.Common.{subst}
use Rattle.text_lemmas.specs.Writing.{Writes}
use Rattle.report_text.specs.Views.{occupancy_in}
use Rattle.report_text.proofs.LineTexts.{shard_line_is}
use Rattle.report_text.proofs.lines.put_shard_line.Goals as goal

pub returns : goal.returns
returns g c =
    let line = rw c.from.ensures at c.put_field_line.ensures in
    subst (Writes _ _ _) (shard_line_is c.args.shard (occupancy_in c.args.occupancy.now)) line
