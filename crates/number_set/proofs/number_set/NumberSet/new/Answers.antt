use Rattle.std.proofs.Common.{◌≡◌, ◌+◌, ◌-◌, ◌/◌, sym, ap, ◌∙◌, subst, replicate, arith}
use Rattle.number_set.specs.inside.Words.{bits_below, IsConsistent}
use Rattle.number_set.proofs.Sets.{bits-none, none-consistent}
use Rattle.number_set.proofs.number_set.NumberSet.new.Goals as goal

pub invariant_of-result : goal.invariant_of-result
invariant_of-result c =
    let zeros : c.in_ok-from_elem.field-0.items ≡ replicate ((c.args.bound + 64 - 1) / 64) 0 = c.in_ok-from_elem.ensures.items_if_clones_equal (λ y h. h) in
    subst (IsConsistent c.args.bound 0) (sym zeros) (none-consistent c.args.bound ((c.args.bound + 64 - 1) / 64) (omega (arith, c.ranges.bound.fits)) (omega arith))

pub returns : goal.returns
returns c =
    let zeros : c.in_ok-from_elem.field-0.items ≡ replicate ((c.args.bound + 64 - 1) / 64) 0 = c.in_ok-from_elem.ensures.items_if_clones_equal (λ y h. h) in
    ap (bits_below c.args.bound) zeros ∙ bits-none c.args.bound ((c.args.bound + 64 - 1) / 64)
