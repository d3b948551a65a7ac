use Rattle.std.proofs.Common.{sym, subst, ◌∙◌}
use Rattle.regions.specs.Contents.{live_at}
use Rattle.row_cache.specs.inside.Chained.{LinksBefore}
use Rattle.row_cache.proofs.Joined.{before_some}
use Rattle.row_cache.proofs.ends.Ends.set_before.Goals as goal

pub returns-in-Some-clause-links : goal.returns-in-Some-clause-links
returns-in-Some-clause-links c =
    let old = live_at c.args.region.now in let new = live_at c.link_newer.new.region in let e = c.link_newer.ensures in
    subst (λ o. LinksBefore c.args.newer o old new) (sym c.in-Some.is) (before_some c.in-Some.place c.args.newer old new (e.newer ∙ c.link_to.ensures) e.older e.others)
