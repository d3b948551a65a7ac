use Rattle.std.proofs.Common.{List, Option, ap, ◌∙◌}
use Rattle.regions.specs.declared.place.Place.{Place}
use Rattle.fragments.specs.Store.{values_of}
use Rattle.fragments.specs.Values.{Values}
use Rattle.place_lemmas.proofs.Pieces.{added_piece}
use Rattle.fragments.proofs.store.FragmentsSegmented.take_piece.Goals as goal

pub returns-clause-adds : goal.returns-clause-adds
returns-clause-adds c =
    let e = c.add_segment.ensures in
    record {
      added = (e.added.0, e.added.1, added_piece c.args.self.now.region c.add_segment.new.self.region e.added.0 c.args.piece e.added.2);
      held = e.held;
      most = e.most;
      guards = e.guards;
    }

pub returns-clause-content : goal.returns-clause-content
returns-clause-content c =
    let e = c.add_segment.ensures in let s = c.add_segment.new.self in
    ap (λ (firsts : List (Option Place)). (firsts, values_of s)) e.firsts ∙ ap (λ (v : Values). (c.args.self.now.firsts, v)) e.values
