use Rattle.std.proofs.Common.{◌*◌, List, ◌∷◌, sym, ap, subst, ◌∙◌}
use Rattle.std.specs.Prelude.{Contains}
use Rattle.layout.specs.Extents.{Extent, AreDisjoint}
use Rattle.layout.specs.Sizes.{page}
use Rattle.raw_range.specs.Memory.{extent_of, remove_extent}
use Rattle.memory_tests.proofs.Removed.{first_removed}
use Rattle.memory_tests.proofs.shard_memory_tests.+fill_and_empty.Goals as goal

pub back_here-requires : goal.back_here-requires
back_here-requires t c =
    let same = c.fill_and_empty-behind.ensures in
    let given = c.in-Ok.ensures.given in
    (given.0 ∙ sym same.home, subst (λ (bs : List Extent). Contains bs (extent_of c.in-Ok.block)) (sym same.blocks) given.1)

pub returns-clause-blocks : goal.returns-clause-blocks
returns-clause-blocks t c =
    let piece = extent_of c.in-Ok.block in
    let blocks = c.args.memory.now.blocks in
    let given = c.in-Ok.ensures.blocks in
    let apart : AreDisjoint (page * c.give_here.new.self.pages) (piece ∷ blocks) = subst (AreDisjoint (page * c.give_here.new.self.pages)) given c.in-Ok.ensures.disjoint in
    c.back_here.ensures.blocks ∙ (ap (remove_extent piece) (c.fill_and_empty-behind.ensures.blocks ∙ given) ∙ first_removed _ piece blocks apart)
