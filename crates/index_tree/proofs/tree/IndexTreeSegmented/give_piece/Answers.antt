use Rattle.place_lemmas.proofs.Pieces.{guards_given, most_given, pieces_given}
use Rattle.index_tree.proofs.tree.IndexTreeSegmented.give_piece.Goals as goal

pub returns : goal.returns
returns c =
    let e = c.give_up.ensures in let r = c.args.self.now.region in let s = c.give_up.new.self.region in let piece = c.give_up.result in
    record {
      gives = record {
        none = e.none;
        given = pieces_given piece r s e.given;
        held = e.held;
        most = most_given piece r s e.emptied e.given;
        guards = guards_given piece r s e.emptied e.given;
      };
    }
