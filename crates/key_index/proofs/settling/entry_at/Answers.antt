use Rattle.std.proofs.Common.{[], List, slice_get, sym, ap, ◌∙◌, arith}
use Rattle.key_index.specs.declared.entries.Entry.{Entry}
use Rattle.key_index.proofs.Found.{at_past, get_past, get_here}
use Rattle.key_index.proofs.settling.entry_at.Goals as goal

pub returns-then-place-len : goal.returns-then-place-len
returns-then-place-len c =
    get_past [] c.args.place.at (omega arith) ∙ ap (λ (es : List Entry). slice_get es c.args.place.at) (sym (at_past c.args.blocks.now.contents c.args.place.block (omega (arith, c.if-place-len.true, c.len.ensures))))

pub returns-then-place-entries : goal.returns-then-place-entries
returns-then-place-entries c =
    get_past c.entries-entries.result.now c.args.place.at c.if-place-entries.true ∙ ap (λ (es : List Entry). slice_get es c.args.place.at) c.entries-entries.ensures.is

pub returns : goal.returns
returns c =
    get_here c.entries-entries.result.now c.args.place.at _ c.if-place-entries.false ∙ ap (λ (es : List Entry). slice_get es c.args.place.at) c.entries-entries.ensures.is
