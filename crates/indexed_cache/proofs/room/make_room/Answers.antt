-- The group is there still, once a second segment is free.
use Rattle.indexed_cache.proofs.Kept.{has-kept, keeps-both, keeps-none}
use Rattle.indexed_cache.proofs.room.make_room.Goals as goal

pub returns-then-size-left-clause-kept : goal.returns-then-size-left-clause-kept
returns-then-size-left-clause-kept c = keeps-none c.args.cache.now

pub left-requires-then-not-free_second : goal.left-requires-then-not-free_second
left-requires-then-not-free_second c = has-kept c.args.cache.now c.free_second.new.cache c.args.group c.free_second.ensures.kept c.requires.group

pub begin_next-requires-clause-group : goal.begin_next-requires-clause-group
begin_next-requires-clause-group c = has-kept c.args.cache.now c.free_second.new.cache c.args.group c.free_second.ensures.kept c.requires.group

pub returns-clause-kept : goal.returns-clause-kept
returns-clause-kept c = keeps-both c.args.cache.now c.free_second.new.cache c.begin_next.new.cache c.free_second.ensures.kept c.begin_next.ensures.kept
