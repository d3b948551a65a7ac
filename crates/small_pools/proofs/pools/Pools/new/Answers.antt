use Rattle.std.proofs.Common.{false, sym, ap, ◌∙◌}
use Rattle.std.specs.Prelude.{length}
use Rattle.std.proofs.lemmas.List.{length-replicate}
use Rattle.small_pools.proofs.Marked.{marked_none}
use Rattle.small_pools.proofs.pools.Pools.new.Goals as goal

pub invariant_of-result : goal.invariant_of-result
invariant_of-result c =
    let e = c.in_ok-new.ensures in
    marked_none c.in_ok-new.field-0 c.in_ok-new-2.field-0 e.none_held (ap length c.in_ok-new-2.ensures ∙ length-replicate c.args.pages false ∙ sym e.pages) e.objects
