use Rattle.std.proofs.Common.{◌≡◌, ap, ◌∙◌, arith}
use Rattle.std.proofs.lemmas.List.{length-replicate}
use Rattle.regions.specs.Segments.{RegionState, idle}
use Rattle.regions.specs.Shapes.{group_count}
use Rattle.regions.specs.Contents.{live_at}
use Rattle.row_cache.proofs.Grouped.{grouped_new}
use Rattle.row_cache.proofs.Looked.{consistent_new}
use Rattle.row_cache.proofs.cache.RowCache.new.Goals as goal

pub invariant_of-result : goal.invariant_of-result
invariant_of-result c =
    let r = c.in_ok-new.field-0 in
    let count : group_count r ≡ c.args.regions = ap (λ (x : RegionState). group_count x) c.in_ok-new.ensures ∙ length-replicate c.args.regions idle in
    let some = c.requires.regions.0 in
    record {
      some = omega (arith, count, some);
      counted = consistent_new c.in_ok-new-2.field-0 r c.args.segments c.args.regions c.in_ok-new.ensures c.in_ok-new-2.ensures.empty.1 c.in_ok-new-2.ensures.none;
      chain = c.in_ok-new-2.ensures.linked (live_at r);
      grouped = grouped_new r c.args.segments c.args.regions c.in_ok-new.ensures;
    }
