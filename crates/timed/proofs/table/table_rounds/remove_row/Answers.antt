use Rattle.std.proofs.Common.{refl, sym, subst}
use Rattle.key_table.specs.Table.{IsTableOf}
use Rattle.timed.specs.TableArena.{has_row, key_of}
use Rattle.timed.proofs.Rows.{readable_less, tag_there}
use Rattle.timed.proofs.table.table_rounds.remove_row.Goals as goal

pub remove-requires : goal.remove-requires
remove-requires c = tag_there (key_of c.args.arena.now) c.args.table.now c.in-Ok.found c.requires.tagged c.in-Ok.ensures.0

pub returns-then-not-remove : goal.returns-then-not-remove
returns-then-not-remove c = subst (IsTableOf (has_row c.args.arena.now) (key_of c.args.arena.now)) (sym (c.if-not-remove.ensures.unchanged refl)) c.requires

pub returns : goal.returns
returns c = record {
  readable = readable_less (has_row c.args.arena.now) _ _ _ (c.if-not-remove.ensures.rows refl) c.requires.readable;
  tagged = c.remove.ensures.tagged (key_of c.args.arena.now) c.requires.tagged;
}
