use Rattle.std.proofs.Common.{length, refl, sym, ◌∙◌}
use Rattle.std.specs.List.{refill, length_refill}
use Rattle.shard_store.specs.inside.Consistent.{store_of}
use Rattle.regions.specs.Shapes.{group_count}
use Rattle.shard_store.proofs.Holding.{consistent-own, rows-guarded, rows-stay}
use Rattle.shard_store.proofs.Homecoming.{lends-block, lends-written}
use Rattle.shard_store.proofs.giving.give_now.Goals as goal

pub returns-clause-stay : goal.returns-clause-stay
returns-clause-stay c =
    let old = c.args.cache.now.region in let new = c.give_or_refuse.new.cache.region in let e = c.give_or_refuse.ensures in
    record { each = rows-stay old new e.keeps.stay; guarded = rows-guarded old new e.keeps.stay e.guards }

pub returns-clause-same : goal.returns-clause-same
returns-clause-same c =
    let m = c.args.memory.now in let e = c.give_or_refuse.ensures in let given = c.in_ok-block.ensures.given in
    let made = (e.consistent m.owner m.pages (group_count c.args.cache.now.region) c.requires.whole).made in
    record { shard = made.owner; pages = made.size; regions = made.groups; room = e.keeps.room; list = given.gives.list ∙ given.came.list; guards = e.guards }

pub returns-clause-lends : goal.returns-clause-lends
returns-clause-lends c =
    let share = c.args.share in let size = c.args.size in let a = c.args.memory.now in let b = c.give_or_refuse.new.memory in
    let old = c.args.cache.now in let new = c.give_or_refuse.new.cache in let block = c.in_ok-block.block in
    let bytes = refill (length block.piece.bytes) block.piece.bytes c.fill.new.self in
    lends-written share (store_of a old) (store_of b new) block bytes (sym (length_refill (length block.piece.bytes) block.piece.bytes c.fill.new.self refl))
    (lends-block share size a b old new block c.in_ok-block.ensures.given)

pub returns-clause-whole : goal.returns-clause-whole
returns-clause-whole c =
    let m = c.args.memory.now in let groups = group_count c.args.cache.now.region in
    consistent-own m.owner m.pages groups c.give_or_refuse.new.memory c.give_or_refuse.new.cache.region (c.give_or_refuse.ensures.consistent m.owner m.pages groups c.requires.whole)
