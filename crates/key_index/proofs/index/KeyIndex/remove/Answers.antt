use Rattle.std.proofs.Common.{refl}
use Rattle.key_index.proofs.Told.{taken_all}
use Rattle.key_index.proofs.index.KeyIndex.remove.Goals as goal

pub returns-in_default-clause-rows : goal.returns-in_default-clause-rows
returns-in_default-clause-rows g c = (c.in_default.ensures.1, refl)

pub returns-clause-index : goal.returns-clause-index
returns-clause-index g c =
    record {
      readable = taken_all (g.K.Keys.has_row c.args.keys.now) c.in-Ok.found.row c.args.self.now.rows c.remove_at.new.self.rows c.remove_at.ensures.rows c.requires.index.readable;
      ordered = c.remove_at.ensures.ordered (g.K.Keys.key_of c.args.keys.now) c.requires.index.ordered;
    }
