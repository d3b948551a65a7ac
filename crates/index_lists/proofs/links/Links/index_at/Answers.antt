use Rattle.std.proofs.Common.{◌-◌, Some, sym, ap, ◌∙◌, arith}
use Rattle.index_lists.specs.inside.Links.{OneWay}
use Rattle.index_lists.proofs.Sentinels.{at_list, at_index}
use Rattle.index_lists.proofs.links.Links.index_at.Goals as goal

pub returns-then-place-list : goal.returns-then-place-list
returns-then-place-list c =
    let same = c.if-place-list.true in
    sym (at_list c.args.self.now.lists c.args.self.now.indices c.args.place c.args.list c.requires.list (omega (arith, same)))

pub overflow_sub-result : goal.overflow_sub-result
overflow_sub-result c =
    let other = c.if-place-list.false in
    let index = at_index c.args.self.now.lists c.args.self.now.indices c.args.place c.args.list c.requires.list (λ e. absurd (omega (arith, other, e))) c.requires.ring in
    let most = index.0 in let same = ap (λ (l : OneWay). l.lists) c.self.view_is in omega (arith, most, same)

pub returns : goal.returns
returns c =
    let other = c.if-place-list.false in
    let index = at_index c.args.self.now.lists c.args.self.now.indices c.args.place c.args.list c.requires.list (λ e. absurd (omega (arith, other, e))) c.requires.ring in
    let same = ap (λ (l : OneWay). l.lists) c.self.view_is in
    ap (λ m. Some (c.args.place - m)) same ∙ sym index.1
