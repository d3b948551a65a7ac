use Rattle.std.proofs.Common.{◌<◌, ◌≤◌, length, get_or, sym, subst, ap, ◌∙◌, arith}
use Rattle.index_lists.specs.Lists.{Lists, list_at, with_list}
use Rattle.index_lists.specs.inside.Links.{number}
use Rattle.common_lemmas.specs.Lists.{delete, times}
use Rattle.index_lists.proofs.Linked.{held_within, number_back, before_written, after_written, all_removed, keeps_linked, lists_are, some_length}
use Rattle.index_lists.proofs.lists.IndexLists.remove.Goals as goal

pub place_of-place-requires : goal.place_of-place-requires
place_of-place-requires c =
    let i = c.self.inside in let list = subst (λ (s : Lists). c.args.list < length s.lists) (sym c.self.view_is) c.requires.list in
    let held = subst (λ (s : Lists). 1 ≤ times c.args.index (list_at s c.args.list)) (sym c.self.view_is) c.requires.held in
    let within = held_within i.indices i.next.links i.prev.links i.lengths.items c.args.list c.args.index c.self.invariant.consistent list held in
    let same = c.self.invariant.next_indices in omega (arith, within, same)

pub get-after-requires : goal.get-after-requires
get-after-requires c =
    let list = subst (λ (s : Lists). c.args.list < length s.lists) (sym c.self.view_is) c.requires.list in
    let held = subst (λ (s : Lists). 1 ≤ times c.args.index (list_at s c.args.list)) (sym c.self.view_is) c.requires.held in
    let low = c.self.invariant.next_written c.args.list c.args.index list held in let at = c.place_of-place.ensures.place in omega (arith, low, at)

pub get-before-requires : goal.get-before-requires
get-before-requires c =
    let list = subst (λ (s : Lists). c.args.list < length s.lists) (sym c.self.view_is) c.requires.list in
    let held = subst (λ (s : Lists). 1 ≤ times c.args.index (list_at s c.args.list)) (sym c.self.view_is) c.requires.held in
    let low = c.self.invariant.prev_written c.args.list c.args.index list held in let at = c.place_of-place.ensures.place in
    let next = c.self.invariant.next_lists in let prev = c.self.invariant.prev_lists in omega (arith, low, at, next, prev)

pub link-requires-clause-before : goal.link-requires-clause-before
link-requires-clause-before c =
    let i = c.self.inside in let list = subst (λ (s : Lists). c.args.list < length s.lists) (sym c.self.view_is) c.requires.list in
    let held = subst (λ (s : Lists). 1 ≤ times c.args.index (list_at s c.args.list)) (sym c.self.view_is) c.requires.held in
    let back = number_back i.indices i.next i.prev i.lengths.items c.self.invariant c.args.list c.args.index list held c.place_of-place.result in
    let before = c.get-before.ensures ∙ ap (λ n. get_or i.prev.links n 0) (back ∙ c.place_of-place.ensures.number) in
    before_written i.indices i.next i.prev i.lengths.items c.self.invariant c.args.list c.args.index list held c.get-before.result before

pub link-requires-clause-after : goal.link-requires-clause-after
link-requires-clause-after c =
    let i = c.self.inside in let list = subst (λ (s : Lists). c.args.list < length s.lists) (sym c.self.view_is) c.requires.list in
    let held = subst (λ (s : Lists). 1 ≤ times c.args.index (list_at s c.args.list)) (sym c.self.view_is) c.requires.held in
    let after = c.get-after.ensures ∙ ap (λ n. get_or i.next.links n 0) c.place_of-place.ensures.number in
    after_written i.indices i.next i.prev i.lengths.items c.self.invariant c.args.list c.args.index list held c.get-after.result after

pub decrement-requires-clause-some : goal.decrement-requires-clause-some
decrement-requires-clause-some c =
    let i = c.self.inside in let list = subst (λ (s : Lists). c.args.list < length s.lists) (sym c.self.view_is) c.requires.list in
    let held = subst (λ (s : Lists). 1 ≤ times c.args.index (list_at s c.args.list)) (sym c.self.view_is) c.requires.held in
    some_length i.indices i.next.links i.prev.links i.lengths.items c.args.list c.args.index c.self.invariant.consistent list held

pub invariant_of-self : goal.invariant_of-self
invariant_of-self c =
    let i = c.self.inside in let list = subst (λ (s : Lists). c.args.list < length s.lists) (sym c.self.view_is) c.requires.list in
    let held = subst (λ (s : Lists). 1 ≤ times c.args.index (list_at s c.args.list)) (sym c.self.view_is) c.requires.held in
    let back = number_back i.indices i.next i.prev i.lengths.items c.self.invariant c.args.list c.args.index list held c.place_of-place.result in
    let before = c.get-before.ensures ∙ ap (λ n. get_or i.prev.links n 0) (back ∙ c.place_of-place.ensures.number) in
    let after = c.get-after.ensures ∙ ap (λ n. get_or i.next.links n 0) c.place_of-place.ensures.number in
    let removed =
    all_removed i.indices i.next i.prev i.lengths.items c.self.invariant c.args.list c.args.index list held c.link.new.next c.link.new.prev c.decrement.new.lengths.items
    c.get-before.result c.get-after.result before after c.link.ensures.next c.link.ensures.prev c.decrement.ensures in
    keeps_linked _ _ _ _ _ removed

pub returns : goal.returns
returns c =
    let i = c.self.inside in let list = subst (λ (s : Lists). c.args.list < length s.lists) (sym c.self.view_is) c.requires.list in
    let held = subst (λ (s : Lists). 1 ≤ times c.args.index (list_at s c.args.list)) (sym c.self.view_is) c.requires.held in
    let back = number_back i.indices i.next i.prev i.lengths.items c.self.invariant c.args.list c.args.index list held c.place_of-place.result in
    let before = c.get-before.ensures ∙ ap (λ n. get_or i.prev.links n 0) (back ∙ c.place_of-place.ensures.number) in
    let after = c.get-after.ensures ∙ ap (λ n. get_or i.next.links n 0) c.place_of-place.ensures.number in
    let removed =
    all_removed i.indices i.next i.prev i.lengths.items c.self.invariant c.args.list c.args.index list held c.link.new.next c.link.new.prev c.decrement.new.lengths.items
    c.get-before.result c.get-after.result before after c.link.ensures.next c.link.ensures.prev c.decrement.ensures in
    lists_are _ _ _ _ _ removed.consistent
    ∙ ap (λ s. with_list s c.args.list (delete c.args.index (list_at s c.args.list))) c.self.view_is
