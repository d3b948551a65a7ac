use Rattle.std.proofs.Common.{[], ◌∷◌, ◌++◌, ◌≡◌, ℕ, ◌≤◌, cond, replicate, length, sym, ap, ◌∙◌, subst, arith, List}
use Rattle.std.specs.List.{count_by}
use Rattle.std.proofs.lemmas.List.{length-replicate}
use Rattle.std.proofs.lemmas.List.Folds.{sum_by-replicate}
use Rattle.layout.specs.Sizes.{most_segments}
use Rattle.regions.specs.inside.Consistent.{not_closed, is_sparse}
use Rattle.std.proofs.lemmas.Result.{IfOk-from_err}
use Rattle.regions.proofs.Regions.{replicate-more}
use Rattle.regions.proofs.live_table.LiveTable.new.Goals as goal

none-sparse : (most : ℕ) → most ≤ most_segments → (length (replicate most not_closed) ≤ most_segments) × (0 ≡ count_by is_sparse (replicate most not_closed))
none-sparse most few = (
  subst (λ n. n ≤ most_segments) (sym (length-replicate most not_closed)) few,
  sym (sum_by-replicate (λ (v : ℕ). cond (is_sparse v) 1 0) most not_closed ∙ omega arith),
)

all : (n most : ℕ) (items : List ℕ) → items ≡ replicate n not_closed → n ≡ most → items ≡ replicate most not_closed
all n most items e f = e ∙ ap (λ k. replicate k not_closed) f

pub invariant_of-result : goal.invariant_of-result
invariant_of-result c =
    let ends = c.loop-number.auto._number-end in
    let full : c.loop-number._number ≡ c.args.most = omega (arith, c.loop-number-test.false, ends) in
    subst (λ l. (length l ≤ most_segments) × (0 ≡ count_by is_sparse l)) (sym (all c.loop-number._number c.args.most _ c.loop-number.invariant full)) (none-sparse c.args.most c.requires)

pub returns-in_err-bytes : goal.returns-in_err-bytes
returns-in_err-bytes c = IfOk-from_err c.from_residual.result _ c.from_residual.ensures.0

pub loop-number-init : goal.loop-number-init
loop-number-init c = c.in_ok-bytes.ensures.items

pub returns-in_err-push : goal.returns-in_err-push
returns-in_err-push c = IfOk-from_err c.from_residual-in_err-push.result _ c.from_residual-in_err-push.ensures.0

pub loop-number-preserved : goal.loop-number-preserved
loop-number-preserved c = c.in_ok-push.ensures.items ∙ ap (λ l. l ++ not_closed ∷ []) c.loop-number.invariant ∙ replicate-more c.loop-number._number not_closed

pub returns : goal.returns
returns c =
    let ends = c.loop-number.auto._number-end in
    all c.loop-number._number c.args.most _ c.loop-number.invariant (omega (arith, c.loop-number-test.false, ends))
