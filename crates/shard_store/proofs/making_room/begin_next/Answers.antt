use Rattle.std.proofs.Common.{length, ap, ◌∙◌, arith}
use Rattle.regions.specs.Segments.{group_at}
use Rattle.regions.specs.Shapes.{Shape, shape}
use Rattle.shard_store.proofs.Groups.{groups-activated, guards-activated}
use Rattle.shard_store.proofs.Holding.{made-kept}
use Rattle.shard_store.proofs.making_room.begin_next.Goals as goal

pub returns-then-left-size-clause-consistent : goal.returns-then-left-size-clause-consistent
returns-then-left-size-clause-consistent c = λ shard pages regions memory h.
    let e = c.next_active.ensures in let shapes = e.activated.2 in let groups = (shape c.args.cache.now.region).groups in
    record {
      made =
          made-kept shard pages regions memory c.args.cache.now.region c.next_active.new.self.region e.pieces e.held (ap (λ (s : Shape). s.most) shapes) (ap (λ (s : Shape). length s.groups) shapes ∙ groups-activated groups c.args.group e.activated.0) h.made;
      free = let two = c.requires.free in let less = e.free in omega (arith, two, less);
    }

pub returns-then-left-size-clause-guards : goal.returns-then-left-size-clause-guards
returns-then-left-size-clause-guards c = λ k.
    (let shapes = c.next_active.ensures.activated in
    ap (λ (s : Shape). (group_at s.groups k).guards) shapes.2 ∙ guards-activated (shape c.args.cache.now.region).groups c.args.group shapes.0 k)
