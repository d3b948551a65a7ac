use Rattle.std.proofs.Common.{inl}
use Rattle.rows.specs.Key.{in_table}
use Rattle.row_cache.specs.Rows.{rows_of}
use Rattle.rows_tests.proofs.Found.{found_has}
use Rattle.rows_tests.proofs.row_cache_tests.trial.has_room.Goals as goal

pub returns-in-Some : goal.returns-in-Some
returns-in-Some c = λ yes.
    let found = c.in-Some.ensures.found in
    inl (found_has (in_table c.args.table c.args.key.now) (rows_of c.args.cache.now) found.0 found.1)
