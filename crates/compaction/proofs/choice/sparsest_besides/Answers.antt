use Rattle.std.proofs.Common.{refl, subst}
use Rattle.compaction.specs.inside.Chosen.{IsSparsestSoFar}
use Rattle.compaction.proofs.Chosen.{so-far-dense, so-far-sparser}
use Rattle.compaction.proofs.choice.sparsest_besides.Goals as goal

pub returns-in_default : goal.returns-in_default
returns-in_default c = so-far-dense c.args.region.now c.args.group c.args.found (c.in_default.ensures.none.0 refl) c.requires.found

pub returns-in-Some-found : goal.returns-in-Some-found
returns-in-Some-found c =
    so-far-sparser c.args.region.now c.args.group c.in-Some-found.other c.in-Some.number c.sparser.result c.requires.guards c.in-Some.ensures.some
    (subst (IsSparsestSoFar c.args.region.now c.args.group) c.in-Some-found.is c.requires.found) c.sparser.ensures
