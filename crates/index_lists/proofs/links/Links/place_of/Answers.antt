use Rattle.std.proofs.Common.{◌≡◌, ◌+◌, ◌-◌, ◌<◌, sym, subst, ◌∙◌, arith}
use Rattle.index_lists.specs.inside.Links.{OneWay, number}
use Rattle.index_lists.proofs.InMemory.{number_index}
use Rattle.index_lists.proofs.links.Links.place_of.Goals as goal

pub returns-clause-number : goal.returns-clause-number
returns-clause-number c =
    let low = subst (λ (l : OneWay). c.args.index < l.indices) (sym c.self.view_is) c.requires in
    let lists = c.self.inside.lists in let place = lists + c.args.index in
    let back : place - lists ≡ c.args.index = omega arith in
    subst (λ (l : OneWay). number l place ≡ c.args.index) c.self.view_is (number_index lists c.self.inside.indices place (omega arith) (omega (arith, low)) ∙ back)
