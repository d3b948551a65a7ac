use Rattle.std.proofs.Common.{[], ◌∷◌, ◌++◌, ◌≡◌, ℕ, Bool, false, List, replicate, sym, ap, ◌∙◌, subst, arith}
use Rattle.std.specs.Prelude.{Option, None}
use Rattle.std.proofs.lemmas.Result.{IfOk-from_err}
use Rattle.regions.specs.Segments.{SegmentState, GroupState, RegionState, idle}
use Rattle.regions.specs.Counts.{live_in_each}
use Rattle.regions.specs.inside.Consistent.{states, unused}
use Rattle.regions.proofs.Regions.{Fields, replicate-more}
use Rattle.regions.proofs.Unused.{new-fields, new-states}
use Rattle.regions.proofs.Totals.{none-live, total-zeros}
use Rattle.regions.proofs.region.Region.new.Goals as goal

all : (n most : ℕ) (items : List (Option SegmentState)) → items ≡ replicate n None → n ≡ most → items ≡ replicate most None
all n most items e f = e ∙ ap (λ k. replicate k None) f

pub invariant_of-result : goal.invariant_of-result
invariant_of-result c =
    let ends = c.loop-number.auto._number-end in let most = c.args.most in let groups = c.in_ok-new_groups.field-0 in let held = c.in_ok-new.field-0 in let free = c.in_ok-new-2.field-0 in let none : List Bool = replicate most false in
    let full : c.loop-number._number ≡ most = omega (arith, c.loop-number-test.false, ends) in
    let none-in : c.loop-number.slots.items ≡ replicate most None = all c.loop-number._number most c.loop-number.slots.items c.loop-number.invariant full in (
      subst (λ g. Fields most g held free c.loop-number.slots.items) (sym c.in_ok-new_groups.ensures)
          (subst (λ h. Fields most (replicate c.args.groups (unused most)) h free c.loop-number.slots.items) (sym c.in_ok-new.ensures)
          (subst (λ f. Fields most (replicate c.args.groups (unused most)) none f c.loop-number.slots.items) (sym c.in_ok-new-2.ensures)
          (subst (λ l. Fields most (replicate c.args.groups (unused most)) none none l) (sym none-in)
          (new-fields most c.args.groups c.requires.most c.requires.groups.0 c.requires.groups.1)))),
      total-zeros most _ (ap live_in_each none-in ∙ none-live most),
    )

pub returns-in_err-slots : goal.returns-in_err-slots
returns-in_err-slots c = IfOk-from_err c.from_residual.result _ c.from_residual.ensures.0

pub loop-number-init : goal.loop-number-init
loop-number-init c = c.in_ok-slots.ensures.items

pub returns-in_err-push : goal.returns-in_err-push
returns-in_err-push c = IfOk-from_err c.from_residual-in_err-push.result _ c.from_residual-in_err-push.ensures.0

pub loop-number-preserved : goal.loop-number-preserved
loop-number-preserved c = c.in_ok-push.ensures.items ∙ ap (λ l. l ++ None ∷ []) c.loop-number.invariant ∙ replicate-more c.loop-number._number None

pub returns-in_err-new : goal.returns-in_err-new
returns-in_err-new c = IfOk-from_err c.from_residual-in_err-new.result _ c.from_residual-in_err-new.ensures.0

pub returns-in_err-new-2 : goal.returns-in_err-new-2
returns-in_err-new-2 c = IfOk-from_err c.from_residual-in_err-new-2.result _ c.from_residual-in_err-new-2.ensures.0

pub returns-in_err-new_groups : goal.returns-in_err-new_groups
returns-in_err-new_groups c = IfOk-from_err c.from_residual-in_err-new_groups.result _ c.from_residual-in_err-new_groups.ensures.0

pub returns : goal.returns
returns c =
    let ends = c.loop-number.auto._number-end in let most = c.args.most in
    ap (λ (gs : List GroupState). let r : RegionState = record { most = most; groups = gs; segments = c.loop-number.slots.items } in r) (ap states c.in_ok-new_groups.ensures ∙ new-states most c.args.groups)
    ∙ ap (λ (s : List (Option SegmentState)). let r : RegionState = record { most = most; groups = replicate c.args.groups idle; segments = s } in r)
    (all c.loop-number._number most c.loop-number.slots.items c.loop-number.invariant (omega (arith, c.loop-number-test.false, ends)))
