-- The part of one piece more.
use Rattle.std.proofs.Common.{◌≡◌, [], take, drop, ap, ◌∙◌, subst}
use Rattle.std.specs.List.{concat}
use Rattle.text_lemmas.specs.Writing.{Goes}
use Rattle.text_lemmas.proofs.Written.{Goes-done, Goes-next, Goes-none, Goes-stop, Writes-exit}
use Rattle.values_mode.proofs.Taken.{nothing_left, part_cut}
use Rattle.values_mode.proofs.answers.put_part.Goals as goal

pub loop-piece-init : goal.loop-piece-init
loop-piece-init g c = Goes-none

pub loop-piece-preserved : goal.loop-piece-preserved
loop-piece-preserved g c =
    let split = part_cut c.loop-piece.skip c.loop-piece.left c.in-Some.piece.now (concat c.next.new.self) c.front_of-part.result.now (concat c.loop-piece.rest)
    (ap concat c.in-Some.ensures.steps) (c.front_of-part.ensures ∙ ap (take c.loop-piece.left) c.end_of.ensures) in
    rw c.saturating_sub-skip.ensures (Goes-next (subst (Goes _ _ _) split c.loop-piece.invariant) c.in_ok-put.ensures)

pub returns-in_err-put : goal.returns-in_err-put
returns-in_err-put g c =
    let split = part_cut c.loop-piece.skip c.loop-piece.left c.in-Some.piece.now (concat c.next.new.self) c.front_of-part.result.now (concat c.loop-piece.rest)
    (ap concat c.in-Some.ensures.steps) (c.front_of-part.ensures ∙ ap (take c.loop-piece.left) c.end_of.ensures) in
    Writes-exit _ c.from_residual.ensures.1 (Goes-stop _ (subst (Goes _ _ _) split c.loop-piece.invariant) c.in_err-put.ensures)

pub returns : goal.returns
returns g c =
    let skip = c.loop-piece.skip in let left = c.loop-piece.left in
    let none : take left (drop skip (concat c.loop-piece.rest)) ≡ [] =
    ap (λ ps. take left (drop skip (concat ps))) c.in_default.ensures.steps.0 ∙ nothing_left skip left in
    Goes-done (subst (Goes _ _ _) none c.loop-piece.invariant)
