use Rattle.std.proofs.Common.{◌+◌, List, take, set, ap, ◌∙◌}
use Rattle.key_index.specs.declared.entries.Entry.{Entry}
use Rattle.key_index.proofs.Parts.{put_first}
use Rattle.key_index.proofs.copies.put_in.Goals as goal

pub returns-clause-first : goal.returns-clause-first
returns-clause-first c =
    ap (λ (es : List Entry). take (c.args.len + 1) (set es c.args.at c.args.entry)) c.copy_within.ensures.after
    ∙ put_first c.args.entries.now c.args.len c.args.at c.args.entry c.requires.at c.requires.room
