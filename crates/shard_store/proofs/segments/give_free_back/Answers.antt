use Rattle.std.proofs.Common.{ap, sym, ◌∙◌, refl, subst, arith}
use Rattle.std.specs.Prelude.{IsNone, Some}
use Rattle.regions.specs.Segments.{RegionState}
use Rattle.regions.specs.Shapes.{identity, pieces, shape, group_count, guards_of, free_count}
use Rattle.row_cache.specs.Rows.{CacheState}
use Rattle.shard_memory.specs.Shards.{MemoryState}
use Rattle.shard_store.specs.inside.Consistent.{IsConsistent}
use Rattle.shard_store.proofs.Holding.{counted-same, piece-at, pieces-without, holds-less, at-least-two}
use Rattle.shard_store.proofs.Homecoming.{segments-same}
use Rattle.shard_store.proofs.segments.give_free_back.Goals as goal

pub segment_back-requires : goal.segment_back-requires
segment_back-requires c =
    let g = c.in-Some.ensures.taken in let of = c.requires.made.1.holds.of g.0 (identity c.in-Some.piece) (piece-at c.args.cache.now.region g.0 c.in-Some.piece g.2) in (of.home, of.segment)

pub returns-in_default-clause-leaves : goal.returns-in_default-clause-leaves
returns-in_default-clause-leaves c =
    let e = c.in_default.ensures in let same = e.unchanged refl in
    record {
      rows = e.rows;
      keeps = e.keeps;
      guards = λ k. ap (λ (x : CacheState). guards_of x.region k) same;
      consistent = λ shard pages regions h. subst (λ (x : CacheState). IsConsistent shard pages regions c.args.memory.now x.region) (sym same) h;
    }

pub returns-clause-leaves : goal.returns-clause-leaves
returns-clause-leaves c =
    let e = c.in-Some.ensures in let g = e.taken in let b = c.segment_back.ensures in
    let region = c.args.cache.now.region in let next = c.take_free.new.self.region in
    let same-pages = ap (λ (s : MemoryState). s.pages) b.same in
    record {
      rows = e.rows;
      keeps = e.keeps;
      guards = λ k. ap (λ (r : RegionState). guards_of r k) g.3;
      consistent = λ shard pages regions h. (let m = h.made in record {
        made = record {
          owner = ap (λ (s : MemoryState). s.owner) b.same ∙ m.owner;
          size = same-pages ∙ m.size;
          are_pages = m.are_pages;
          blocks = ap (λ (s : MemoryState). s.blocks) b.same ∙ m.blocks;
          most = ap (λ (r : RegionState). (shape r).most) g.3 ∙ m.most;
          holds = holds-less c.args.memory.now c.segment_back.new.self (ap (λ (s : MemoryState). s.home) b.same) c.in-Some.piece b.segments b.one_less region next g.0
              (piece-at region g.0 c.in-Some.piece g.2) (ap (λ (r : RegionState). pieces r) g.3 ∙ pieces-without region g.0) (e.held refl) m.holds;
          groups = ap (λ (r : RegionState). group_count r) g.3 ∙ m.groups;
          enough = m.enough;
          counted = counted-same c.args.memory.now c.segment_back.new.self (segments-same c.args.memory.now c.segment_back.new.self b.same) m.counted;
        };
        free = let less = e.free refl in let two = at-least-two (free_count region) (λ few. let clash : IsNone (Some c.in-Some.piece) = e.none.1 few in cc) in omega (arith, less, two);
      });
    }

pub returns-clause-handed : goal.returns-clause-handed
returns-clause-handed c _ =
    let e = c.in-Some.ensures in let region = c.args.cache.now.region in
    let less = e.free refl in let two = at-least-two (free_count region) (λ few. let clash : IsNone (Some c.in-Some.piece) = e.none.1 few in cc) in (omega (arith, less, two), less)
