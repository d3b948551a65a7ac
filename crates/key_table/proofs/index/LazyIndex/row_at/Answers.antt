use Rattle.std.proofs.Common.{◌≤◌, sym, ap, subst, ◌∙◌}
use Rattle.common_lemmas.specs.Lists.{times}
use Rattle.key_table.specs.Hash.{tag_of}
use Rattle.key_table.specs.Lazy.{rows_in}
use Rattle.key_table.proofs.Both.{tag_there}
use Rattle.key_table.proofs.index.LazyIndex.row_at.Goals as goal

pub returns-clause-there : goal.returns-clause-there
returns-clause-there g c =
    let key_of = g.K.Keys.key_of c.args.keys.now in
    let found = c.of.result in
    record {
      has = subst (λ n. 1 ≤ times n (rows_in c.args.self.now)) (sym c.of.ensures.row) c.requires.row;
      tag = tag_there key_of c.args.self.now.table found c.requires.lazy.keyed.tagged (c.of.ensures.tag ∙ (c.new.ensures ∙ ap tag_of (c.key-key.ensures.key ∙ ap key_of (sym c.of.ensures.row))));
    }
