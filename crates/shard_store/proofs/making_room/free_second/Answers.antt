use Rattle.std.proofs.Common.{ℕ, refl, sym, ap, ◌∙◌, subst}
use Rattle.regions.specs.Shapes.{group_count, guards_of}
use Rattle.row_cache.specs.Rows.{CacheState}
use Rattle.shard_memory.specs.Shards.{MemoryState}
use Rattle.shard_store.specs.inside.Consistent.{IsConsistent}
use Rattle.shard_store.proofs.Holding.{consistent-came, consistent-held, consistent-trimmed}
use Rattle.shard_store.proofs.Homecoming.{takes-none}
use Rattle.shard_store.proofs.making_room.free_second.Goals as goal

pub returns-then-free_segments-ge2-clause-taken : goal.returns-then-free_segments-ge2-clause-taken
returns-then-free_segments-ge2-clause-taken c = takes-none c.args.memory.now c.requires.consistent.made.counted.backs

pub returns-else-add_segment-clause-consistent : goal.returns-else-add_segment-clause-consistent
returns-else-add_segment-clause-consistent c =
    let m = c.args.memory.now in let region = c.args.cache.now.region in let home = c.take_back.new.self in let trimmed = c.trim.new.self in
    let memory = c.add_segment.new.memory in let cache = c.add_segment.new.cache in let e = c.compact.ensures in
    let same = c.if-add_segment.ensures.unchanged refl in
    let groups = group_count region in
    let h =
    consistent-trimmed m.owner m.pages groups home trimmed region c.trim.ensures.same
    (consistent-came m.owner m.pages groups m home c.take_back.result region c.take_back.ensures.come c.take_back.ensures.tickets c.requires.consistent) in
    consistent-held m.owner m.pages groups memory cache.region c.compact.new.self.region e.holds e.free
    (subst (λ (s : MemoryState). IsConsistent m.owner m.pages groups s cache.region) (sym same.0) (subst (λ (k : CacheState). IsConsistent m.owner m.pages groups trimmed k.region) (sym same.1) h))

pub returns-else-add_segment-clause-unguarded : goal.returns-else-add_segment-clause-unguarded
returns-else-add_segment-clause-unguarded c = λ (g : ℕ).
    (let same = c.if-add_segment.ensures.unchanged refl in
    c.compact.ensures.holds.guards g ∙ ap (λ (k : CacheState). guards_of k.region g) same.1 ∙ c.requires.unguarded g)

pub returns-then-add_segment-clause-unguarded : goal.returns-then-add_segment-clause-unguarded
returns-then-add_segment-clause-unguarded c = λ g. c.add_segment.ensures.guards g ∙ c.requires.unguarded g
