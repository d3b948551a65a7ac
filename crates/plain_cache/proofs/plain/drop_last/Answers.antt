-- The rows before the last one have distinct keys too.
use Rattle.std.proofs.Common.{◌≡◌, ◌-◌, arith, length, map, vec_len}
use Rattle.plain_cache.specs.inside.OwnedRow.{row_in}
use Rattle.plain_cache.proofs.RowLists.{front-rows}
use Rattle.row_lemmas.proofs.Laws.{other_rows_are_distinct-front}
use Rattle.plain_cache.proofs.plain.drop_last.Goals as goal

pub returns-clause-rows : goal.returns-clause-rows
returns-clause-rows c =
    let count : vec_len c.args.rows.now ≡ length c.args.rows.now.items = omega arith in
    front-rows c.args.rows.now.items c.pop.new.self.items (vec_len c.args.rows.now) count c.pop.ensures.rest

pub returns-clause-distinct : goal.returns-clause-distinct
returns-clause-distinct c are =
    let rows = map row_in c.args.rows.now.items in
    let count : vec_len c.args.rows.now ≡ length c.args.rows.now.items = omega arith in
    rw (front-rows c.args.rows.now.items c.pop.new.self.items (vec_len c.args.rows.now) count c.pop.ensures.rest) (other_rows_are_distinct-front (length rows - 1) rows are)
