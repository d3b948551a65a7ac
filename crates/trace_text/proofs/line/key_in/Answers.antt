-- What stands before the first space of sound fields may be a key.
use Rattle.std.proofs.Common.{◌≡◌, true, sym, subst}
use Rattle.std.specs.List.{list_all}
use Rattle.trace_text.specs.Line.{is_key_byte}
use Rattle.trace_text.proofs.PlainText.{plain_key}
use Rattle.trace_text.proofs.line.key_in.Goals as goal

pub key_fault-requires : goal.key_fault-requires
key_fault-requires c sound = subst (λ parts. list_all is_key_byte parts.0 ≡ true) (sym c.cut.ensures.parts) (plain_key c.args.fields.now (c.requires sound))
