use Rattle.std.proofs.Common.{arith}
use Rattle.rows_tests.proofs.Groups.{unguarded}
use Rattle.rows_tests.proofs.row_cache_tests.trial.is_guarded.Goals as goal

pub returns : goal.returns
returns c = λ no.
    let end = c.loop-table-test.false in
    unguarded c.args.cache.now.region c.rows.ensures.groups.1 (λ t h. c.loop-table.invariant t (omega (arith, h, end)))
