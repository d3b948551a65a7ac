use Rattle.std.proofs.Common.{sym, subst}
use Rattle.regions.specs.Contents.{live_at}
use Rattle.index_tree.specs.inside.Rosters.{IsRosterOf, RosterState}
use Rattle.index_tree.proofs.Placed.{roster_with}
use Rattle.index_tree.proofs.roots.Roots.place_spare.Goals as goal

pub returns-clause-roster : goal.returns-clause-roster
returns-clause-roster c =
    let e = c.place_node-place.ensures in
    subst (λ (x : RosterState). IsRosterOf x (live_at c.place_node-place.new.region)) (sym c.keep.ensures)
    (roster_with (live_at c.args.region.now) (live_at c.place_node-place.new.region) c.args.self.now c.requires.roster c.place_node-place.result e.absent e.added e.others e.room)

pub returns-clause-more : goal.returns-clause-more
returns-clause-more c = (c.place_node-place.result, c.keep.ensures)
