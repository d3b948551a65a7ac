use Rattle.std.proofs.Common.{◌<◌, ◌∷◌, length, sym, subst, ap, ◌∙◌, arith}
use Rattle.index_lists.specs.Lists.{Lists, IsAbsent, list_at, with_list}
use Rattle.index_lists.specs.inside.Links.{OneWay}
use Rattle.index_lists.proofs.Linked.{first_written, all_pushed, keeps_linked, lists_are, length_within}
use Rattle.index_lists.proofs.lists.IndexLists.push_front.Goals as goal

pub reach-requires : goal.reach-requires
reach-requires c =
    let list = subst (λ (s : Lists). c.args.list < length s.lists) (sym c.self.view_is) c.requires.list in
    let below = subst (λ (s : Lists). c.args.index < s.indices) (sym c.self.view_is) c.requires.index in
    let same = c.self.invariant.next_indices in omega (arith, below, same)

pub reach-requires-2 : goal.reach-requires-2
reach-requires-2 c =
    let list = subst (λ (s : Lists). c.args.list < length s.lists) (sym c.self.view_is) c.requires.list in
    let below = subst (λ (s : Lists). c.args.index < s.indices) (sym c.self.view_is) c.requires.index in
    let same = c.self.invariant.prev_indices in omega (arith, below, same)

pub place_of-place-requires : goal.place_of-place-requires
place_of-place-requires c =
    let list = subst (λ (s : Lists). c.args.list < length s.lists) (sym c.self.view_is) c.requires.list in
    let below = subst (λ (s : Lists). c.args.index < s.indices) (sym c.self.view_is) c.requires.index in
    let same = ap (λ (w : OneWay). w.indices) c.reach.ensures in let all = c.self.invariant.next_indices in omega (arith, below, same, all)

pub get-first-requires : goal.get-first-requires
get-first-requires c =
    let list = subst (λ (s : Lists). c.args.list < length s.lists) (sym c.self.view_is) c.requires.list in
    let below = subst (λ (s : Lists). c.args.index < s.indices) (sym c.self.view_is) c.requires.index in
    let same = ap (λ (w : OneWay). w.lists) c.reach.ensures in let all = c.self.invariant.next_lists in omega (arith, list, same, all)

pub set-requires : goal.set-requires
set-requires c =
    let list = subst (λ (s : Lists). c.args.list < length s.lists) (sym c.self.view_is) c.requires.list in
    let below = subst (λ (s : Lists). c.args.index < s.indices) (sym c.self.view_is) c.requires.index in
    let at = c.place_of-place.ensures.place in let end = ap (λ (w : OneWay). w.written) c.reach.ensures in omega (arith, at, end)

pub set-requires-2 : goal.set-requires-2
set-requires-2 c =
    let list = subst (λ (s : Lists). c.args.list < length s.lists) (sym c.self.view_is) c.requires.list in
    let below = subst (λ (s : Lists). c.args.index < s.indices) (sym c.self.view_is) c.requires.index in
    first_written c.self.inside.indices c.self.inside.next c.self.inside.prev c.self.inside.lengths.items c.self.invariant c.args.list c.args.index list below c.reach.new.self c.reach-2.new.self c.get-first.result c.reach.ensures c.reach-2.ensures c.get-first.ensures

pub set-requires-3 : goal.set-requires-3
set-requires-3 c =
    let list = subst (λ (s : Lists). c.args.list < length s.lists) (sym c.self.view_is) c.requires.list in
    let below = subst (λ (s : Lists). c.args.index < s.indices) (sym c.self.view_is) c.requires.index in
    let same = ap (λ (w : OneWay). w.lists) c.reach.ensures in let kept = ap (λ (w : OneWay). w.lists) c.set.ensures in let all = c.self.invariant.next_lists in omega (arith, list, same, kept, all)

pub set-requires-4 : goal.set-requires-4
set-requires-4 c =
    let list = subst (λ (s : Lists). c.args.list < length s.lists) (sym c.self.view_is) c.requires.list in
    let below = subst (λ (s : Lists). c.args.index < s.indices) (sym c.self.view_is) c.requires.index in
    let at = c.place_of-place.ensures.place in let end = ap (λ (w : OneWay). w.written) c.reach-2.ensures in let kept = ap (λ (w : OneWay). w.written) c.set-2.ensures in
    let there = ap (λ (w : OneWay). w.lists) c.reach.ensures in let here = ap (λ (w : OneWay). w.lists) c.reach-2.ensures in let same = ap (λ (w : OneWay). w.lists) c.set-2.ensures in
    let next = c.self.invariant.next_lists in let prev = c.self.invariant.prev_lists in omega (arith, at, end, kept, there, here, same, next, prev)

pub overflow_add-index_mut : goal.overflow_add-index_mut
overflow_add-index_mut c =
    let list = subst (λ (s : Lists). c.args.list < length s.lists) (sym c.self.view_is) c.requires.list in
    let below = subst (λ (s : Lists). c.args.index < s.indices) (sym c.self.view_is) c.requires.index in
    let fits = length_within c.self.inside.indices c.self.inside.next.links c.self.inside.prev.links c.self.inside.lengths.items c.args.list c.index_mut.result.now c.self.invariant.consistent list c.index_mut.ensures.value in
    omega (arith, fits)

pub invariant_of-self : goal.invariant_of-self
invariant_of-self c =
    let list = subst (λ (s : Lists). c.args.list < length s.lists) (sym c.self.view_is) c.requires.list in
    let below = subst (λ (s : Lists). c.args.index < s.indices) (sym c.self.view_is) c.requires.index in
    let absent = subst (λ s. IsAbsent s c.args.index) (sym c.self.view_is) c.requires.absent in
    keeps_linked _ _ _ _ _
    (all_pushed c.self.inside.indices c.self.inside.next c.self.inside.prev c.self.inside.lengths.items c.self.invariant c.args.list c.args.index list below c.reach.new.self c.reach-2.new.self c.set.new.self c.set-2.new.self c.set-3.new.self c.set-4.new.self
    c.get-first.result c.place_of-place.result c.index_mut.result.now absent c.reach.ensures c.reach-2.ensures c.place_of-place.ensures.number c.get-first.ensures c.index_mut.ensures.value c.set.ensures c.set-2.ensures c.set-3.ensures c.set-4.ensures)

pub returns : goal.returns
returns c =
    let list = subst (λ (s : Lists). c.args.list < length s.lists) (sym c.self.view_is) c.requires.list in
    let below = subst (λ (s : Lists). c.args.index < s.indices) (sym c.self.view_is) c.requires.index in
    let absent = subst (λ s. IsAbsent s c.args.index) (sym c.self.view_is) c.requires.absent in
    lists_are _ _ _ _ _
    (all_pushed c.self.inside.indices c.self.inside.next c.self.inside.prev c.self.inside.lengths.items c.self.invariant c.args.list c.args.index list below c.reach.new.self c.reach-2.new.self c.set.new.self c.set-2.new.self c.set-3.new.self c.set-4.new.self
    c.get-first.result c.place_of-place.result c.index_mut.result.now absent c.reach.ensures c.reach-2.ensures c.place_of-place.ensures.number c.get-first.ensures c.index_mut.ensures.value c.set.ensures c.set-2.ensures c.set-3.ensures c.set-4.ensures).consistent
    ∙ ap (λ s. with_list s c.args.list (c.args.index ∷ list_at s c.args.list)) c.self.view_is
