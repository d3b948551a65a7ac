-- What the position of a row says.
use Rattle.rows.specs.Key.{key_shown}
use Rattle.plain_cache.proofs.RowLists.{absent_where, has-position, is_position_where}
use Rattle.row_lemmas.proofs.Laws.{other_rows_are_distinct-all}
use Rattle.plain_cache.proofs.plain.seek.Goals as goal

pub returns-clause-absent : goal.returns-clause-absent
returns-clause-absent c = absent_where (key_shown c.args.key.now) c.args.rows.now c.position_of.result c.position_of.ensures

pub returns-clause-has : goal.returns-clause-has
returns-clause-has c = rw c.position_of.ensures (has-position (key_shown c.args.key.now) c.args.rows.now)

pub returns-clause-position : goal.returns-clause-position
returns-clause-position c = is_position_where other_rows_are_distinct-all (key_shown c.args.key.now) c.args.rows.now c.position_of.result c.position_of.ensures
