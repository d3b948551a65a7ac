use Rattle.std.proofs.Common.{ℕ, length, ap, ◌∙◌, subst, arith}
use Rattle.regions.specs.Segments.{group_at}
use Rattle.regions.specs.Shapes.{Shape, active_of, group_count, shape}
use Rattle.regions.specs.Counts.{used_counts}
use Rattle.shard_store.specs.inside.Consistent.{IsMadeOf}
use Rattle.shard_store.proofs.Groups.{groups-activated, guards-activated, has-kept}
use Rattle.shard_store.proofs.Holding.{left-of-one, made-kept, made-own}
use Rattle.shard_store.proofs.segments.begin.Goals as goal

pub add_first-requires-2-clause-made : goal.add_first-requires-2-clause-made
add_first-requires-2-clause-made c =
    let old = c.args.memory.now in
    made-own old.owner old.pages (group_count c.args.cache.now.region) c.add_first.new.memory c.add_first.new.cache.region c.add_first.ensures.made

pub next_active-requires-clause-group : goal.next_active-requires-clause-group
next_active-requires-clause-group c =
    let old = c.args.cache.now.region in let first = c.add_first.new.cache.region in let second = c.add_first-2.new.cache.region in
    has-kept first second 0 c.add_first-2.ensures.made.groups (has-kept old first 0 c.add_first.ensures.made.groups c.requires.groups)

pub returns-clause-consistent : goal.returns-clause-consistent
returns-clause-consistent c =
    let old = c.args.memory.now in let first = c.add_first.ensures in let second = c.add_first-2.ensures in let memory = c.add_first-2.new.memory in
    let groups = group_count c.args.cache.now.region in
    let region = c.add_first-2.new.cache.region in let next = c.next_active.new.self.region in let e = c.next_active.ensures in let shapes = e.activated.2 in
    let made =
    subst (λ (k : ℕ). IsMadeOf old.owner old.pages k memory region) first.made.groups
    (subst (λ (k : ℕ). IsMadeOf k old.pages (group_count c.add_first.new.cache.region) memory region) first.made.owner
    (subst (λ (k : ℕ). IsMadeOf c.add_first.new.memory.owner k (group_count c.add_first.new.cache.region) memory region) first.made.size second.made)) in
    record {
      made = made-kept old.owner old.pages groups memory region next e.pieces e.held (ap (λ (s : Shape). s.most) shapes)
          (ap (λ (s : Shape). length s.groups) shapes ∙ groups-activated (shape region).groups 0 e.activated.0) made;
      free = (let one = e.free in let two = second.free in let three = first.free in omega (arith, one, two, three));
    }

pub returns-clause-guards : goal.returns-clause-guards
returns-clause-guards c = λ g.
    (let e = c.next_active.ensures.activated in
    ap (λ (s : Shape). (group_at s.groups g).guards) e.2 ∙ guards-activated (shape c.add_first-2.new.cache.region).groups 0 e.0 g ∙ c.add_first-2.ensures.guards g ∙ c.add_first.ensures.guards g)

pub returns-clause-segments : goal.returns-clause-segments
returns-clause-segments c =
    let first = c.add_first.ensures in let second = c.add_first-2.ensures in let next = c.next_active.new.self.region in let e = c.next_active.ensures in
    record {
      held = (let none = ap length c.requires.none in let one = first.one_more in let two = second.one_more in let count = second.made.holds.count in let same = e.held in omega (arith, none, one, two, count, same));
      free = (let none = c.requires.free in let one = first.free in let two = second.free in let last = e.free in omega (arith, none, one, two, last));
      active = left-of-one (used_counts next) (active_of next 0) e.left;
      left = e.left;
    }
