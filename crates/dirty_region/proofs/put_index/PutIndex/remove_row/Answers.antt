use Rattle.std.proofs.Common.{sym, ap, ◌∙◌}
use Rattle.key_table.specs.Hash.{tag_of}
use Rattle.dirty_region.proofs.PutRows.{tag_there}
use Rattle.dirty_region.proofs.put_index.PutIndex.remove_row.Goals as goal

pub remove-requires-clause-tag : goal.remove-requires-clause-tag
remove-requires-clause-tag g c =
    let key_of = g.K.Keys.key_of c.args.keys.now in
    tag_there key_of c.args.self.now.table c.of.result c.requires.index.keyed.tagged (c.of.ensures.tag ∙ (c.new.ensures ∙ ap tag_of (sym (ap key_of c.of.ensures.row ∙ c.requires.key))))
