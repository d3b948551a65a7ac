use Rattle.std.proofs.Common.{sym, subst, ◌∙◌}
use Rattle.regions.specs.Contents.{live_at}
use Rattle.fragments.specs.inside.Linking.{LeadsOn}
use Rattle.fragments.proofs.Lives.{next_some}
use Rattle.fragments.proofs.links.lead_on.Goals as goal

pub returns-in-Some-clause-links : goal.returns-in-Some-clause-links
returns-in-Some-clause-links c =
    let e = c.write_next.ensures in
    subst (λ at. LeadsOn at c.args.to (live_at c.args.region.now) (live_at c.write_next.new.region)) (sym c.in-Some.is)
    (next_some c.in-Some.place c.args.to (live_at c.args.region.now) (live_at c.write_next.new.region) (e.here ∙ c.link_to.ensures) e.back e.others)
