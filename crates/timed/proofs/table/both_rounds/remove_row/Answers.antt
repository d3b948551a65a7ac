use Rattle.timed.specs.TableArena.{has_row, key_of}
use Rattle.timed.proofs.Rows.{lazy_less}
use Rattle.timed.proofs.table.both_rounds.remove_row.Goals as goal

pub returns : goal.returns
returns c =
    lazy_less (has_row c.args.arena.now) (key_of c.args.arena.now) c.standing-standing.result.found.row c.args.index.now c.remove.new.self c.remove.ensures.rows c.requires
    (c.remove.ensures.keyed (key_of c.args.arena.now) c.requires.keyed)
