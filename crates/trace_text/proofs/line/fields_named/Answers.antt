-- What stands behind the table is of the same bytes.
use Rattle.std.proofs.Common.{rules}
use Rattle.trace_text.specs.inside.Found.{IsRestOf}
use Rattle.trace_text.proofs.PlainText.{plain_rest}
use Rattle.trace_text.proofs.line.fields_named.Goals as goal

pub fields_on-requires-clause-sound : goal.fields_on-requires-clause-sound
fields_on-requires-clause-sound c sound =
    let fields = c.args.fields.now in
    let behind = c.in_ok-behind.behind.now in
    let rest : IsRestOf fields behind = search rules in
    plain_rest fields behind (c.requires sound) rest
