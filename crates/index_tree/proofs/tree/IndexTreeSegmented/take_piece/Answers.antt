use Rattle.place_lemmas.proofs.Pieces.{added_piece}
use Rattle.index_tree.proofs.tree.IndexTreeSegmented.take_piece.Goals as goal

pub returns-clause-adds : goal.returns-clause-adds
returns-clause-adds c =
    let e = c.add_segment.ensures in
    record {
      added = (e.added.0, e.added.1, added_piece c.args.self.now.region c.add_segment.new.self.region e.added.0 c.args.piece e.added.2);
      held = e.held;
      most = e.most;
      guards = e.guards;
    }
