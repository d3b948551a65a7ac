use Rattle.std.proofs.Common.{inl, refl}
use Rattle.foreign_list.specs.Blocks.{Block}
use Rattle.shard_store.specs.inside.Homecoming.{GivesAfter}
use Rattle.shard_store.proofs.Holding.{leaves-same}
use Rattle.shard_store.proofs.Homecoming.{after-home, some-map}
use Rattle.shard_store.proofs.Pressure.{hands-one, pages-filled}
use Rattle.shard_store.proofs.giving.give_squeezed.Goals as goal

pub returns-in-Some-clause-leaves : goal.returns-in-Some-clause-leaves
returns-in-Some-clause-leaves c = leaves-same c.args.memory.now c.give_trimmed.new.memory c.args.cache.now (λ shard pages regions h. c.give_trimmed.ensures.consistent shard pages regions c.args.cache.now.region h)

pub returns-in-None-clause-given : goal.returns-in-None-clause-given
returns-in-None-clause-given c =
    let share = c.args.share in let size = c.args.size in let old = c.args.memory.now in let mid = c.give_trimmed.new.memory in let new = c.give_freed.new.memory in
    some-map (GivesAfter share size mid new) (GivesAfter share size old new) c.give_freed.result (λ (b : Block) h. after-home share size old mid new b c.in-None.ensures.taken h) c.give_freed.ensures.given

pub returns-in-None-clause-leaves : goal.returns-in-None-clause-leaves
returns-in-None-clause-leaves c =
    let f = c.give_freed.ensures.leaves in
    record {
      rows = f.rows;
      keeps = f.keeps;
      guards = f.guards;
      consistent = λ shard pages regions h. f.consistent shard pages regions (c.give_trimmed.ensures.consistent shard pages regions c.args.cache.now.region h);
    }

pub returns-in-Some-clause-segments : goal.returns-in-Some-clause-segments
returns-in-Some-clause-segments c = inl refl

pub returns-in-None-clause-segments : goal.returns-in-None-clause-segments
returns-in-None-clause-segments c =
    let old = c.args.memory.now in let mid = c.give_trimmed.new.memory in let cache = c.args.cache.now in let e = c.in-None.ensures in let f = c.give_freed.ensures in
    let regions = c.requires.consistent.0 in
    let made = (c.give_trimmed.ensures.consistent old.owner old.pages regions cache.region c.requires.consistent.1).made in
    hands-one old mid c.give_freed.new.memory cache c.give_freed.new.cache c.give_freed.result
    (pages-filled old.owner old.pages regions old mid cache.region made e.taken.pages e.none.2) f.handed f.out f.unchanged
