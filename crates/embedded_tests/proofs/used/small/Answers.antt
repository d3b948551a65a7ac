use Rattle.std.proofs.Common.{inl, refl, sym, ap, subst, ◌∙◌, arith}
use Rattle.embedded_cache.specs.States.{CanOpen}
use Rattle.embedded_cache.specs.declared.opening.Opening.{Opening}
use Rattle.embedded_tests.proofs.used.small.Goals as goal

pub open-requires-clause-opening : goal.open-requires-clause-opening
open-requires-clause-opening c = subst CanOpen (sym c.of_pages-opening.ensures) (record {
  pages = (omega arith, omega arith, refl);
  some_rows = omega arith;
  rows = omega arith;
  regions = inl refl;
  bound = omega arith;
})

pub open-requires-clause-owner : goal.open-requires-clause-owner
open-requires-clause-owner c = c.requires.owner ∙ sym (ap (λ (o : Opening). o.shard) c.of_pages-opening.ensures)
