-- Nothing goes at the floor or below it.
use Rattle.std.proofs.Common.{ℕ, ◌<◌, ◌≤◌, None, arith, subst, ◌∙◌}
use Rattle.std.specs.List.{last_or}
use Rattle.rows.specs.Row.{is_of_put, live}
use Rattle.row_cache.specs.Rows.{rows_of}
use Rattle.indexed_cache.proofs.Kept.{keeps-none}
use Rattle.indexed_cache.proofs.Replied.{above, not-above}
use Rattle.indexed_cache.proofs.doing.evict.Goals as goal

pub returns-then-live-floor-clause-possible : goal.returns-then-live-floor-clause-possible
returns-then-live-floor-clause-possible c =
    let rows = rows_of c.args.cache.now in
    not-above (is_of_put c.args.put (last_or None rows)) c.args.floor (live rows) (subst (λ (n : ℕ). n ≤ c.args.floor) c.live.ensures.rows c.if-live-floor.true)

pub returns-then-live-floor-clause-kept : goal.returns-then-live-floor-clause-kept
returns-then-live-floor-clause-kept c = keeps-none c.args.cache.now

pub returns-clause-possible : goal.returns-clause-possible
returns-clause-possible c =
    let rows = rows_of c.args.cache.now in
    let high : c.args.floor < live rows = (let is = c.live.ensures.rows in let not = c.if-live-floor.false in omega (arith, is, not)) in
    c.evict_last.ensures.last ∙ above (is_of_put c.args.put (last_or None rows)) c.args.floor (live rows) high
