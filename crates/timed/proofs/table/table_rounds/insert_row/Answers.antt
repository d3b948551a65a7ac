use Rattle.std.proofs.Common.{refl, ap, ◌∙◌}
use Rattle.key_table.specs.Hash.{tag_of}
use Rattle.timed.specs.TableArena.{has_row, key_of}
use Rattle.timed.proofs.Rows.{readable_told}
use Rattle.timed.proofs.table.table_rounds.insert_row.Goals as goal

pub returns : goal.returns
returns c = record {
  readable = readable_told (has_row c.args.arena.now) c.args.row _ _ c.insert-taken.result c.insert-taken.ensures.rows (c.if-not-has_key.ensures refl) c.requires.readable;
  tagged = c.insert-taken.ensures.tagged (key_of c.args.arena.now) c.requires.tagged (c.in-Err.ensures.0 ∙ ap tag_of c.key-key.ensures.key);
}
