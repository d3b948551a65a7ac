-- The rows up to the position are rotated by one.
use Rattle.std.proofs.Common.{◌≡◌, arith, length}
use Rattle.rows.specs.Key.{key_shown}
use Rattle.plain_cache.proofs.Rotation.{rotated, rotated_distinct, rotated_rows, written}
use Rattle.row_lemmas.proofs.Laws.{other_rows_are_distinct-brought}
use Rattle.plain_cache.proofs.plain.bring_to_front.Goals as goal

pub returns : goal.returns
returns c =
    let rows = c.args.rows.now.items in
    let front = c.rotate_right.new.self in
    let all : c.args.rows.now.len ≡ length rows = omega arith in
    let is = rotated (key_shown c.args.key.now) rows c.slice_mut.result.now front c.args.at c.args.rows.now.len c.requires.of_key c.requires.distinct all
    c.slice_mut.ensures.value c.rotate_right.ensures.len c.rotate_right.ensures.after in
    let now = written c.args.rows.now.len front rows in
    record {
      rows = rotated_rows (key_shown c.args.key.now) rows now is.0 is.1;
      distinct_still = rotated_distinct other_rows_are_distinct-brought (key_shown c.args.key.now) rows now is.0 is.1 c.requires.distinct;
      small = is.1.small;
      fewer = omega arith;
    }
