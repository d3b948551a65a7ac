use Rattle.std.proofs.Common.{◌≡◌, ◌+◌, ◌-◌, ◌*◌, ◌<◌, ◌≤◌, sym, ◌∙◌, subst}
use Rattle.layout.specs.Sizes.{dense}
use Rattle.rows.specs.Row.{live}
use Rattle.regions.specs.Shapes.{group_count, held_count}
use Rattle.row_cache.specs.Rows.{rows_of}
use Rattle.shard_memory.specs.Shards.{IsCrowded}
use Rattle.shard_store.specs.Works.{floor_of}
use Rattle.foreign_list.specs.Blocks.{Block}
use Rattle.shard_store.specs.inside.Homecoming.{GivesAfter, TakesHome}
use Rattle.shard_store.proofs.Holding.{consistent-own, consistent-since}
use Rattle.shard_store.proofs.Homecoming.{after-home, none-two, some-map}
use Rattle.shard_store.proofs.Pressure.{block-pressed}
use Rattle.shard_store.proofs.giving.give_unevicted.Goals as goal

pub give_compacted-requires-clause-consistent : goal.give_compacted-requires-clause-consistent
give_compacted-requires-clause-consistent c =
    let old = c.args.memory.now in let groups = group_count c.args.cache.now.region in
    consistent-own old.owner old.pages groups c.give_uncompacted.new.memory c.give_uncompacted.new.cache.region (c.give_uncompacted.ensures.leaves.consistent old.owner old.pages groups c.requires.consistent)

pub give_compacted-requires-clause-unguarded : goal.give_compacted-requires-clause-unguarded
give_compacted-requires-clause-unguarded c = λ g. c.give_uncompacted.ensures.leaves.guards g ∙ c.requires.unguarded g

pub returns-in-Some-clause-consistent : goal.returns-in-Some-clause-consistent
returns-in-Some-clause-consistent c = c.give_uncompacted.ensures.leaves.consistent c.args.memory.now.owner c.args.memory.now.pages (group_count c.args.cache.now.region) c.requires.consistent

pub returns-in-Some-clause-unguarded : goal.returns-in-Some-clause-unguarded
returns-in-Some-clause-unguarded c = λ g. c.give_uncompacted.ensures.leaves.guards g ∙ c.requires.unguarded g

pub returns-in-None-clause-consistent : goal.returns-in-None-clause-consistent
returns-in-None-clause-consistent c =
    let old = c.args.memory.now in let mid = c.give_uncompacted.new.cache.region in let groups = group_count c.args.cache.now.region in
    consistent-since old.owner old.pages groups c.give_uncompacted.new.memory c.give_compacted.new.memory mid c.give_compacted.new.cache.region
    (c.give_uncompacted.ensures.leaves.consistent old.owner old.pages groups c.requires.consistent).made c.give_compacted.ensures.consistent

pub returns-in-None-clause-given : goal.returns-in-None-clause-given
returns-in-None-clause-given c =
    let old = c.args.memory.now in let mid = c.give_uncompacted.new.memory in let found = c.give_compacted in let new = found.new.memory in
    some-map (GivesAfter c.args.share c.args.size mid new) (GivesAfter c.args.share c.args.size old new) found.result
    (λ (b : Block) h. after-home c.args.share c.args.size old mid new b c.in-None.ensures.none.0 h) found.ensures.given

pub returns-in-None-clause-pressed : goal.returns-in-None-clause-pressed
returns-in-None-clause-pressed c =
    let old = c.args.memory.now in let mid = c.give_uncompacted.new.memory in let found = c.give_compacted in let new = found.new.memory in let cache = found.new.cache in
    let region = cache.region in let rows = rows_of cache in let e = found.ensures in let none = c.in-None.ensures.none in
    let groups = group_count c.args.cache.now.region in let before = c.give_uncompacted.new.cache.region in
    let made =
    (consistent-since old.owner old.pages groups mid new before region (c.give_uncompacted.ensures.leaves.consistent old.owner old.pages groups c.requires.consistent).made e.consistent).made
    in
    none-two (new ≡ mid) ((held_count region - 1 - group_count region) * (dense + 1) ≤ live rows) (floor_of old.pages old.lent groups < live rows) found.result
    (λ same most. block-pressed old.owner old.pages groups old new region (live rows) made (subst (TakesHome old) (sym same) none.0) (subst IsCrowded (sym same) none.1) c.requires.consistent.made.counted.tickets most)
    e.unchanged e.most

pub returns-in-Some-clause-tables : goal.returns-in-Some-clause-tables
returns-in-Some-clause-tables c = c.give_uncompacted.ensures.leaves.keeps.room

pub returns-in-None-clause-tables : goal.returns-in-None-clause-tables
returns-in-None-clause-tables c = c.give_compacted.ensures.tables ∙ c.give_uncompacted.ensures.leaves.keeps.room
