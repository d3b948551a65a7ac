use Rattle.std.proofs.Common.{◌+◌, ◌<◌, ◌≤◌, length, get_or, sym, subst, ap, ◌∙◌, arith}
use Rattle.common_lemmas.specs.Lists.{times}
use Rattle.index_lists.specs.Lists.{Lists, list_at, after}
use Rattle.index_lists.specs.inside.Links.{leads_to, number}
use Rattle.index_lists.proofs.Linked.{held_within, after_end}
use Rattle.index_lists.proofs.Neighbours.{next_is}
use Rattle.index_lists.proofs.lists.IndexLists.next.Goals as goal

pub place_of-place-requires : goal.place_of-place-requires
place_of-place-requires c =
    let list = subst (λ (s : Lists). c.args.list < length s.lists) (sym c.self.view_is) c.requires.list in
    let held = subst (λ (s : Lists). 1 ≤ times c.args.index (list_at s c.args.list)) (sym c.self.view_is) c.requires.held in
    let within = held_within c.self.inside.indices c.self.inside.next.links c.self.inside.prev.links c.self.inside.lengths.items c.args.list c.args.index c.self.invariant.consistent list held in
    let same = c.self.invariant.next_indices in omega (arith, within, same)

pub get-requires : goal.get-requires
get-requires c =
    let list = subst (λ (s : Lists). c.args.list < length s.lists) (sym c.self.view_is) c.requires.list in
    let held = subst (λ (s : Lists). 1 ≤ times c.args.index (list_at s c.args.list)) (sym c.self.view_is) c.requires.held in
    let low = c.self.invariant.next_written c.args.list c.args.index list held in let at = c.place_of-place.ensures.place in omega (arith, low, at)

pub index_at-requires-clause-list : goal.index_at-requires-clause-list
index_at-requires-clause-list c =
    let list = subst (λ (s : Lists). c.args.list < length s.lists) (sym c.self.view_is) c.requires.list in
    let lists = c.self.invariant.next_lists in omega (arith, list, lists)

pub index_at-requires-clause-ring : goal.index_at-requires-clause-ring
index_at-requires-clause-ring c =
    let list = subst (λ (s : Lists). c.args.list < length s.lists) (sym c.self.view_is) c.requires.list in
    let held = subst (λ (s : Lists). 1 ≤ times c.args.index (list_at s c.args.list)) (sym c.self.view_is) c.requires.held in
    after_end c.self.inside.indices c.self.inside.next c.self.inside.prev c.self.inside.lengths.items c.self.invariant c.args.list list c.args.index (number c.self.inside.next c.get.result) held (c.get.ensures ∙ ap (λ i. get_or c.self.inside.next.links i 0) c.place_of-place.ensures.number)

pub returns : goal.returns
returns c =
    let list = subst (λ (s : Lists). c.args.list < length s.lists) (sym c.self.view_is) c.requires.list in
    let held = subst (λ (s : Lists). 1 ≤ times c.args.index (list_at s c.args.list)) (sym c.self.view_is) c.requires.held in
    c.index_at.ensures ∙ ap (λ n. leads_to (n + c.args.list) (number c.self.inside.next c.get.result)) c.self.invariant.next_indices
    ∙ ap (leads_to (c.self.inside.indices + c.args.list)) (c.get.ensures ∙ ap (λ i. get_or c.self.inside.next.links i 0) c.place_of-place.ensures.number)
    ∙ next_is c.self.inside.indices c.self.inside.next.links c.self.inside.prev.links c.self.inside.lengths.items c.self.invariant.consistent c.args.list list c.args.index held ∙ ap (λ s. after c.args.index (list_at s c.args.list)) c.self.view_is
