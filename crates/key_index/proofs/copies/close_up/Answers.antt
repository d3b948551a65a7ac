use Rattle.std.proofs.Common.{◌-◌, List, take, ap, ◌∙◌}
use Rattle.key_index.specs.declared.entries.Entry.{Entry}
use Rattle.key_index.proofs.Parts.{close_first}
use Rattle.key_index.proofs.copies.close_up.Goals as goal

pub returns-clause-first : goal.returns-clause-first
returns-clause-first c = ap (λ (es : List Entry). take (c.args.len - 1) es) c.copy_within.ensures.after ∙ close_first c.args.entries.now c.args.len c.args.at c.requires.at c.requires.within
