use Rattle.std.proofs.Common.{◌+◌, ◌<◌, length, slice_get, sym, subst, ap, ◌∙◌, arith}
use Rattle.index_lists.specs.Lists.{Lists, list_at}
use Rattle.index_lists.specs.inside.Links.{leads_to, number}
use Rattle.index_lists.proofs.Linked.{front_read, front_end}
use Rattle.index_lists.proofs.Neighbours.{front_is}
use Rattle.index_lists.proofs.lists.IndexLists.front.Goals as goal

pub get-requires : goal.get-requires
get-requires c =
    let list = subst (λ (s : Lists). c.args.list < length s.lists) (sym c.self.view_is) c.requires in
    let lists = c.self.invariant.next_lists in omega (arith, list, lists)

pub index_at-requires-clause-list : goal.index_at-requires-clause-list
index_at-requires-clause-list c =
    let list = subst (λ (s : Lists). c.args.list < length s.lists) (sym c.self.view_is) c.requires in
    let lists = c.self.invariant.next_lists in omega (arith, list, lists)

pub index_at-requires-clause-ring : goal.index_at-requires-clause-ring
index_at-requires-clause-ring c =
    let i = c.self.inside in let list = subst (λ (s : Lists). c.args.list < length s.lists) (sym c.self.view_is) c.requires in
    front_end i.indices i.next i.prev i.lengths.items c.self.invariant c.args.list list (number i.next c.get.result) (front_read i.indices i.next i.prev i.lengths.items c.self.invariant c.args.list list c.get.result c.get.ensures)

pub returns : goal.returns
returns c =
    let i = c.self.inside in let list = subst (λ (s : Lists). c.args.list < length s.lists) (sym c.self.view_is) c.requires in
    c.index_at.ensures ∙ ap (λ n. leads_to (n + c.args.list) (number i.next c.get.result)) c.self.invariant.next_indices
    ∙ ap (leads_to (i.indices + c.args.list)) (front_read i.indices i.next i.prev i.lengths.items c.self.invariant c.args.list list c.get.result c.get.ensures)
    ∙ front_is i.indices i.next.links i.prev.links i.lengths.items c.self.invariant.consistent c.args.list list ∙ ap (λ s. slice_get (list_at s c.args.list) 0) c.self.view_is
