use Rattle.std.proofs.Common.{refl, ◌<◌, ◌∙◌, arith}
use Rattle.layout.specs.Sizes.{greatest_object}
use Rattle.rows.specs.Row.{live}
use Rattle.regions.specs.Counts.{left}
use Rattle.regions.specs.Shapes.{group_count}
use Rattle.row_cache.specs.Rows.{rows_of}
use Rattle.shard_store.proofs.Homecoming.{takes-none}
use Rattle.shard_store.proofs.Groups.{has-kept}
use Rattle.shard_store.proofs.Pressure.{put-pressed}
use Rattle.shard_store.proofs.making_room.make_room.Goals as goal

pub returns-then-size-left-clause-taken : goal.returns-then-size-left-clause-taken
returns-then-size-left-clause-taken c = takes-none c.args.memory.now c.requires.consistent.made.counted.backs

pub returns-then-not-free_second-clause-pressed : goal.returns-then-not-free_second-clause-pressed
returns-then-not-free_second-clause-pressed c full =
    let e = c.free_second.ensures in let f = c.if-not-free_second.ensures in let region = c.free_second.new.cache.region in let rows = rows_of c.free_second.new.cache in
    let fits = c.requires.size in let is = c.left-then-not-free_second.ensures in
    let shut : left region c.args.group < greatest_object = grind (arith, full, fits, is) in
    put-pressed c.args.memory.now.owner c.args.memory.now.pages (group_count c.args.cache.now.region) c.args.memory.now c.free_second.new.memory region (live rows) e.consistent.made e.taken (f.crowded refl)
    c.requires.consistent.made.counted.tickets (f.full refl c.args.group (has-kept c.args.cache.now.region region c.args.group e.consistent.made.groups c.requires.group) shut)

pub returns-clause-consistent : goal.returns-clause-consistent
returns-clause-consistent c = let m = c.args.memory.now in c.begin_next.ensures.consistent m.owner m.pages (group_count c.args.cache.now.region) c.free_second.new.memory c.free_second.ensures.consistent

pub returns-clause-unguarded : goal.returns-clause-unguarded
returns-clause-unguarded c = λ g. c.begin_next.ensures.guards g ∙ c.free_second.ensures.unguarded g

-- the group is still there once a second segment is free
pub left-requires-then-not-free_second : goal.left-requires-then-not-free_second
left-requires-then-not-free_second c = has-kept c.args.cache.now.region c.free_second.new.cache.region c.args.group c.free_second.ensures.consistent.made.groups c.requires.group

pub begin_next-requires-clause-group : goal.begin_next-requires-clause-group
begin_next-requires-clause-group c = has-kept c.args.cache.now.region c.free_second.new.cache.region c.args.group c.free_second.ensures.consistent.made.groups c.requires.group
