use Rattle.std.proofs.Common.{◌+◌, ◌<◌, length, None, sym, subst, ap, ◌∙◌, arith}
use Rattle.std.specs.List.{last_or}
use Rattle.index_lists.specs.Lists.{Lists, list_at}
use Rattle.index_lists.specs.inside.Links.{leads_to, number}
use Rattle.index_lists.proofs.Linked.{back_read, back_end}
use Rattle.index_lists.proofs.Neighbours.{back_is}
use Rattle.index_lists.proofs.lists.IndexLists.back.Goals as goal

pub get-requires : goal.get-requires
get-requires c =
    let list = subst (λ (s : Lists). c.args.list < length s.lists) (sym c.self.view_is) c.requires in
    let lists = c.self.invariant.prev_lists in omega (arith, list, lists)

pub index_at-requires-clause-list : goal.index_at-requires-clause-list
index_at-requires-clause-list c =
    let list = subst (λ (s : Lists). c.args.list < length s.lists) (sym c.self.view_is) c.requires in
    let lists = c.self.invariant.prev_lists in omega (arith, list, lists)

pub index_at-requires-clause-ring : goal.index_at-requires-clause-ring
index_at-requires-clause-ring c =
    let i = c.self.inside in let list = subst (λ (s : Lists). c.args.list < length s.lists) (sym c.self.view_is) c.requires in
    back_end i.indices i.next i.prev i.lengths.items c.self.invariant c.args.list list (number i.prev c.get.result) (back_read i.indices i.next i.prev i.lengths.items c.self.invariant c.args.list list c.get.result c.get.ensures)

pub returns : goal.returns
returns c =
    let i = c.self.inside in let list = subst (λ (s : Lists). c.args.list < length s.lists) (sym c.self.view_is) c.requires in
    c.index_at.ensures ∙ ap (λ n. leads_to (n + c.args.list) (number i.prev c.get.result)) c.self.invariant.prev_indices
    ∙ ap (leads_to (i.indices + c.args.list)) (back_read i.indices i.next i.prev i.lengths.items c.self.invariant c.args.list list c.get.result c.get.ensures)
    ∙ back_is i.indices i.next.links i.prev.links i.lengths.items c.self.invariant.consistent c.args.list list ∙ ap (λ s. last_or None (list_at s c.args.list)) c.self.view_is
