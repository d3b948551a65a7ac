use Rattle.std.proofs.Common.{◌≡◌, Some, None, sym, ap, ◌∙◌}
use Rattle.std.specs.Ordering.{nat_cmp}
use Rattle.std.specs.FinMap as map
use Rattle.span_lists.specs.Layout.{Layout}
use Rattle.small_pools.specs.Objects.{Objects, AreHeldIn}
use Rattle.memory_tests.proofs.small_pools_tests.fresh.Goals as goal

held_none : (s : Objects) (l : Layout) → l.pages ≡ s.pages → s.held ≡ map.empty → AreHeldIn s l
held_none s l same none = record { pages = same; allocated = λ f c h. (let clash : None ≡ Some c = sym (map.get-empty nat_cmp f) ∙ sym (ap (λ m. map.get m f) none) ∙ h in cc) }

pub returns : goal.returns
returns c = (held_none c.in_ok-pools.pools c.in_ok-spans.spans (c.in_ok-spans.ensures.pages ∙ sym c.in_ok-pools.ensures.pages) c.in_ok-pools.ensures.none_held, c.in_ok-pools.ensures.none_allocated)
