-- The rows are as they were until the new one is stored, and its table has the same group.
use Rattle.std.proofs.Common.{ℕ, ◌%◌, ◌≤◌, List, length, arith, ap, sym, subst, ◌∙◌}
use Rattle.rows.specs.Apply.{put}
use Rattle.rows.specs.Key.{key_shown}
use Rattle.rows.specs.Row.{Row, size}
use Rattle.rows.specs.Spelled.{spelled}
use Rattle.regions.specs.Counts.{left}
use Rattle.indexed_cache.proofs.Kept.{keeps-both, keeps-none}
use Rattle.indexed_cache.proofs.doing.put.Goals as goal

pub returns-then-rows-room-clause-kept : goal.returns-then-rows-room-clause-kept
returns-then-rows-room-clause-kept c = keeps-none c.args.cache.now

pub store-requires-clause-fits : goal.store-requires-clause-fits
store-requires-clause-fits c =
    let same = c.group_of-group.ensures.group ∙ ap (λ (n : ℕ). c.args.key.now.table % n) (sym c.make_room.ensures.kept.segments.groups) in
    subst (λ group. size c.args.key.now.bytes.now c.args.value.now ≤ left c.make_room.new.cache.region group) same
    (subst (λ bytes. bytes ≤ left c.make_room.new.cache.region c.group_of-group.result) c.row_size.ensures (c.make_room.ensures.room c.if-not-make_room.false))

pub store-requires-clause-room : goal.store-requires-clause-room
store-requires-clause-room c =
    let rows = ap length c.make_room.ensures.rows in let count = c.rows.ensures.count in let room = c.make_room.ensures.kept.room in
    let asked = c.requires.room in let few = c.if-rows-room.false in
    omega (arith, rows, count, room, asked, few)

pub returns-clause-rows : goal.returns-clause-rows
returns-clause-rows c =
    c.store.ensures.rows ∙ ap (λ (rows : List Row). (put (key_shown c.args.key.now) c.args.value.now c.args.number rows).0) c.make_room.ensures.rows

pub returns-clause-reply : goal.returns-clause-reply
returns-clause-reply c =
    c.store.ensures.reply ∙ ap (λ (rows : List Row). spelled (put (key_shown c.args.key.now) c.args.value.now c.args.number rows).1) c.make_room.ensures.rows

pub returns-clause-kept : goal.returns-clause-kept
returns-clause-kept c = keeps-both c.args.cache.now c.make_room.new.cache c.store.new.cache c.make_room.ensures.kept c.store.ensures.kept
