use Rattle.std.proofs.Common.{◌≡◌, refl, ap, ◌∙◌, arith}
use Rattle.regions.specs.Shapes.{free_count}
use Rattle.compaction.proofs.Drains.{holds-on}
use Rattle.compaction.proofs.Full.{most-where-compacted, live-where-compacted}
use Rattle.compaction.proofs.Steps.{passes-on}
use Rattle.compaction.proofs.whole.pass.Goals as goal

pub loop-region-preserved : goal.loop-region-preserved
loop-region-preserved g c =
    let old = c.args.region.now in let now = c.loop-region.region in let new = c.free_one.new.region in
    let i = c.loop-region.invariant in let e = c.free_one.ensures in
    let one : free_count now ≡ 1 = (let some = i.free in omega (arith, some)) in
    record {
      guards = λ h. e.holds.guards h ∙ i.guards h;
      free = e.free;
      fits = e.fits;
      store = λ n. e.store n ∙ i.store n;
      rest = e.rest ∙ i.rest;
      holds = holds-on old now new i.holds e.holds;
      enough = λ two. let same : free_count now ≡ free_count old = ap free_count (i.enough two).0 in absurd (omega (arith, two, same, one));
      steps = passes-on g.M.Movers.bare old now new i.steps.0 i.steps.1 one (e.step c.if-not-free_one.false);
    }

pub returns-then-not-free_one-clause-most : goal.returns-then-not-free_one-clause-most
returns-then-not-free_one-clause-most g c = λ _. most-where-compacted c.free_one.new.region (c.if-not-free_one.ensures.none refl)

pub returns-then-not-free_one-clause-full : goal.returns-then-not-free_one-clause-full
returns-then-not-free_one-clause-full g c = λ _ h. live-where-compacted c.free_one.new.region h (c.if-not-free_one.ensures.none refl)
