use Rattle.std.proofs.Common.{length, sym, ap, ◌∙◌, subst, arith}
use denote.RawPtr.{◌+ₚ◌}
use Rattle.layout.specs.Extents.{extent, AreDisjoint}
use Rattle.raw_range.specs.inside.Ownership.{IsPlaced}
use Rattle.raw_range.proofs.Places.{AreDisjoint-remove_extent, length-written, within_blocks}
use Rattle.raw_range.proofs.free_bytes.FreeBytes.deallocate.Goals as goal

pub returns-clause-filled : goal.returns-clause-filled
returns-clause-filled c =
    let free = c.args.self in let e = c.deallocate.ensures in let f = c.requires.0 in let has = c.requires.2 in
    let h = free.unallocated in let xs = c.args.run.items in let p = extent c.args.at (length xs) in
    let within = within_blocks free.filled h.allocated p f.disjoint has in
    record {
      placed = subst IsPlaced (sym e.0) f.placed;
      front = ap length e.2 ∙ length-written h.bytes xs c.args.at (omega (arith, within.1, f.front)) ∙ f.front;
      back = f.back ∙ ap (λ q. q +ₚ free.filled) (sym e.0);
      size = f.size;
      disjoint = subst (AreDisjoint free.filled) (sym e.1) (AreDisjoint-remove_extent free.filled h.allocated p f.disjoint has);
      small = f.small;
    }
