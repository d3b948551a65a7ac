use Rattle.std.proofs.Common.{◌≡◌, ◌+◌, sym, ap, ◌∙◌, subst, arith}
use Rattle.regions.specs.Segments.{RegionState}
use Rattle.regions.specs.Shapes.{group_count, guards_of, held_count}
use Rattle.shard_memory.specs.Room.{IsTrimmed}
use Rattle.shard_memory.specs.Shards.{MemoryState}
use Rattle.shard_store.specs.inside.Consistent.{IsMadeOf}
use Rattle.shard_store.proofs.Holding.{counted-same, holds-more}
use Rattle.shard_store.proofs.Homecoming.{segments-same}
use Rattle.shard_store.proofs.segments.add_segment.Goals as goal

pub returns-clause-made : goal.returns-clause-made
returns-clause-made c =
    let m = c.requires.made in let g = c.in-Some.ensures in let added = c.add_segment.ensures.added in
    let old = c.args.memory.now in let new = c.give_segment.new.self in let region = c.args.cache.now.region in
    let home = ap (λ (s : MemoryState). s.home) g.same in
    let held = subst (λ (r : RegionState). held_count r ≡ held_count region + 1) added.2 c.add_segment.ensures.held in
    subst (λ (r : RegionState). IsMadeOf old.owner old.pages (group_count region) new r) (sym added.2) (record {
      owner = ap (λ (s : MemoryState). s.owner) g.same;
      size = ap (λ (s : MemoryState). s.pages) g.same;
      are_pages = m.are_pages;
      blocks = ap (λ (s : MemoryState). s.blocks) g.same ∙ m.blocks;
      most = m.most;
      holds = holds-more old new c.in-Some.piece (g.mine.0, home) g.disjoint g.segments region added.0 m.holds held;
      groups = m.groups;
      enough = m.enough;
      counted = counted-same old new (segments-same old new g.same) m.counted;
    })

pub returns-clause-guards : goal.returns-clause-guards
returns-clause-guards c = λ g. ap (λ (r : RegionState). guards_of r g) c.add_segment.ensures.added.2

pub returns-clause-trimmed : goal.returns-clause-trimmed
unfolding IsTrimmed
returns-clause-trimmed c = λ trimmed. rw c.in-Some.ensures.taken.pools trimmed

-- the pages make as many segments as the region has numbers
pub add_segment-requires-clause-room : goal.add_segment-requires-clause-room
add_segment-requires-clause-room c =
    let m = c.requires.made in let g = c.in-Some.ensures in let old = c.args.memory.now in
    let pages = ap (λ (s : MemoryState). s.pages) g.same in let held = m.holds.count in let most = m.most in let one = g.one_more in let few = g.few in
    omega (arith, pages, held, most, one, few)
