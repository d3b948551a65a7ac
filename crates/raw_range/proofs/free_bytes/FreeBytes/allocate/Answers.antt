use Rattle.std.proofs.Common.{length, sym, ap, ◌∙◌, subst}
use denote.RawPtr.{◌+ₚ◌}
use Rattle.layout.specs.Extents.{extent, AreDisjoint}
use Rattle.raw_range.specs.inside.Ownership.{IsPlaced}
use Rattle.raw_range.proofs.Places.{AreDisjoint-cons}
use Rattle.raw_range.proofs.free_bytes.FreeBytes.allocate.Goals as goal

pub returns-clause-filled : goal.returns-clause-filled
returns-clause-filled c =
    let free = c.args.self in let e = c.allocate-unallocated.ensures in let f = c.requires.0 in let p = extent c.args.at c.args.len in
    record {
      placed = subst IsPlaced (sym e.0) f.placed;
      front = ap length e.2 ∙ f.front;
      back = f.back ∙ ap (λ q. q +ₚ free.filled) (sym e.0);
      size = f.size;
      disjoint = subst (AreDisjoint free.filled) (sym e.1) (AreDisjoint-cons free.filled p free.unallocated.allocated (c.requires.1, c.requires.2) c.requires.3 f.disjoint);
      small = f.small;
    }
