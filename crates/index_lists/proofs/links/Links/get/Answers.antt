use Rattle.std.proofs.Common.{◌≡◌, get_or, subst}
use Rattle.index_lists.specs.inside.Links.{OneWay, number}
use Rattle.index_lists.proofs.InMemory.{place_within, read_at}
use Rattle.index_lists.proofs.links.Links.get.Goals as goal

pub returns : goal.returns
returns c =
    let i = c.self.invariant in
    let low = place_within c.self.inside.links c.self.inside.lists c.self.inside.indices c.args.place c.args.self.now c.self.view_is i.2 i.3 c.requires in
    subst (λ (l : OneWay). number l c.get_written.result ≡ get_or l.links (number l c.args.place) 0) c.self.view_is
    (read_at c.self.inside.lists c.self.inside.indices c.args.place c.get_written.result c.self.inside.links.entries i.0 low c.get_written.ensures)
