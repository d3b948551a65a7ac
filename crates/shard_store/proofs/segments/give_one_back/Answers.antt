use Rattle.std.proofs.Common.{◌/◌, ap, sym, ◌∙◌, refl, subst, arith}
use Rattle.layout.specs.Sizes.{segment_pages, ArePages}
use Rattle.regions.specs.Shapes.{identity}
use Rattle.shard_memory.specs.Shards.{MemoryState}
use Rattle.shard_store.proofs.Holding.{counted-same, holds-less}
use Rattle.shard_store.proofs.Homecoming.{segments-same}
use Rattle.shard_store.proofs.segments.give_one_back.Goals as goal

pub segment_back-requires : goal.segment_back-requires
segment_back-requires c =
    let g = c.in-Some.ensures.given in let of = c.requires.made.holds.of g.0 (identity c.in-Some.piece) g.2 in (of.home, of.segment)

pub returns-clause-made : goal.returns-clause-made
returns-clause-made c _ =
    let m = c.requires.made in let e = c.in-Some.ensures in let given = e.given in let b = c.segment_back.ensures in
    let pages = ap (λ (s : MemoryState). s.pages) b.same in
    record {
      owner = refl;
      size = refl;
      are_pages = subst ArePages (sym pages) m.are_pages;
      blocks = ap (λ (s : MemoryState). s.blocks) b.same ∙ m.blocks;
      most = e.most ∙ m.most ∙ ap (λ k. k / segment_pages) (sym pages);
      holds = holds-less c.args.memory.now c.segment_back.new.self (ap (λ (s : MemoryState). s.home) b.same) c.in-Some.piece b.segments b.one_less c.args.cache.now.region c.give_up.new.self.region given.0 given.2 given.3 (e.held refl) m.holds;
      groups = refl;
      enough = (let same = ap (λ k. k / segment_pages) pages in let groups = e.groups in let enough = m.enough in omega (arith, same, groups, enough));
      counted = counted-same c.args.memory.now c.segment_back.new.self (segments-same c.args.memory.now c.segment_back.new.self b.same) m.counted;
    }
