use Rattle.std.proofs.Common.{ℕ, ◌≤◌, Some, inr, sym, ap, subst, ◌∙◌, arith}
use Rattle.rows_tests.proofs.Groups.{guarded_at}
use Rattle.rows_tests.proofs.Placed.{row_stays_at, stays_once}
use Rattle.rows_tests.proofs.row_cache_tests.trial.Trial.keeps_beside.Goals as goal

pub value_at-requires-clause-row : goal.value_at-requires-clause-row
value_at-requires-clause-row c =
    let before = c.args.self.now.cache.region in let put = c.put.new.self.region in
    let row = c.in_ok-place.ensures.found in
    let there = row_stays_at before c.guard.new.self.region put c.in_ok-place.place row.0 c.guard.ensures.keeps.stay c.put.ensures.keeps.stay row.2 in
    (row.0, stays_once put c.erase.new.self.region c.in_ok-place.place row.0 c.erase.ensures.keeps.stay there)

pub value_at-requires-clause-live : goal.value_at-requires-clause-live
value_at-requires-clause-live c =
    let before = c.args.self.now.cache.region in
    let group = c.group_of-group.result in
    let here = c.in_ok-place.ensures.group ∙ ap Some (sym c.group_of-group.ensures.group) in
    let same = c.erase.ensures.shape ∙ c.put.ensures.shape in
    let guards = guarded_at before c.guard.new.self.region c.erase.new.self.region c.in_ok-place.place group _ here c.guard.ensures.guards same c.guard.ensures.count in
    inr (subst (λ (n : ℕ). 1 ≤ n) (sym guards) (omega arith))
