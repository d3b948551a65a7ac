use Rattle.std.proofs.Common.{length, ap, ◌∙◌, arith}
use Rattle.regions.specs.Segments.{group_at}
use Rattle.regions.specs.Shapes.{Shape}
use Rattle.shard_store.proofs.Groups.{groups-guarded, shape-guarded}
use Rattle.shard_store.proofs.Holding.{consistent-shape}
use Rattle.shard_store.proofs.looking_up.write_found.Goals as goal

pub guard-requires-clause-few : goal.guard-requires-clause-few
guard-requires-clause-few c = let none = c.requires.unguarded c.group_of-group.result in omega (arith, none)

pub unguard-requires-clause-group : goal.unguard-requires-clause-group
unguard-requires-clause-group c =
    let has = c.group_of-group.ensures.has in let risen = ap (λ (s : Shape). length s.groups) c.copy_value-found.ensures.shape in
    let same = groups-guarded c.args.cache.now.region c.guard.new.self.region c.group_of-group.result _ c.guard.ensures.guards in omega (arith, has, risen, same)

pub unguard-requires-clause-some : goal.unguard-requires-clause-some
unguard-requires-clause-some c =
    let risen = c.guard.ensures.count in
    let same = ap (λ (s : Shape). (group_at s.groups c.group_of-group.result).guards) c.copy_value-found.ensures.shape in omega (arith, risen, same)

pub returns-clause-consistent : goal.returns-clause-consistent
returns-clause-consistent c = λ shard pages regions memory h.
    (let r = c.args.cache.now.region in let u = c.unguard.new.self.region in
    consistent-shape shard pages regions memory r u
    (shape-guarded r c.guard.new.self.region c.copy_value-found.new.cache.region u c.group_of-group.result c.guard.ensures.guards c.copy_value-found.ensures.shape c.unguard.ensures.guards) h)

pub returns-clause-unguarded : goal.returns-clause-unguarded
returns-clause-unguarded c = λ g.
    (let r = c.args.cache.now.region in let u = c.unguard.new.self.region in
    let same = shape-guarded r c.guard.new.self.region c.copy_value-found.new.cache.region u c.group_of-group.result c.guard.ensures.guards c.copy_value-found.ensures.shape c.unguard.ensures.guards in
    ap (λ (s : Shape). (group_at s.groups g).guards) same ∙ c.requires.unguarded g)
