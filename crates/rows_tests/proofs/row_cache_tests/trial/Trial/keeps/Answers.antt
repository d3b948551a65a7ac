use Rattle.std.proofs.Common.{ℕ, ◌≤◌, Some, inr, sym, ap, subst, ◌∙◌, arith}
use Rattle.rows_tests.proofs.Groups.{guarded_at}
use Rattle.rows_tests.proofs.Placed.{row_stays_at}
use Rattle.rows_tests.proofs.row_cache_tests.trial.Trial.keeps.Goals as goal

pub value_at-requires-clause-row : goal.value_at-requires-clause-row
value_at-requires-clause-row c =
    let before = c.args.self.now.cache.region in let after = c.put.new.self.region in
    let row = c.in_ok-place.ensures.found in
    (row.0, row_stays_at before c.guard.new.self.region after c.in_ok-place.place row.0 c.guard.ensures.keeps.stay c.put.ensures.keeps.stay row.2)

pub value_at-requires-clause-live : goal.value_at-requires-clause-live
value_at-requires-clause-live c =
    let before = c.args.self.now.cache.region in
    let group = c.group_of-group.result in
    let here = c.in_ok-place.ensures.group ∙ ap Some (sym c.group_of-group.ensures.group) in
    let guards = guarded_at before c.guard.new.self.region c.put.new.self.region c.in_ok-place.place group _ here c.guard.ensures.guards c.put.ensures.shape c.guard.ensures.count in
    inr (subst (λ (n : ℕ). 1 ≤ n) (sym guards) (omega arith))
