use Rattle.std.proofs.Common.{ap, ◌∙◌}
use Rattle.index_lists.specs.inside.Links.{OneWay, with_link, number}
use Rattle.index_lists.proofs.InMemory.{place_within, after_set}
use Rattle.index_lists.proofs.links.Links.set.Goals as goal

pub returns : goal.returns
returns c =
    let i = c.self.invariant in
    let low = place_within c.self.inside.links c.self.inside.lists c.self.inside.indices c.args.place c.args.self.now c.self.view_is i.2 i.3 c.requires in
    after_set c.self.inside.links c.set_written.new.self c.self.inside.lists c.self.inside.indices c.args.place c.args.to i.0 low c.set_written.ensures
    ∙ ap (λ (l : OneWay). with_link l (number l c.args.place) (number l c.args.to)) c.self.view_is
