use Rattle.std.proofs.Common.{◌+◌, ◌<◌, ◌≤◌, length, ap, arith}
use Rattle.rows.specs.Row.{live, size}
use Rattle.regions.specs.Shapes.{held_count}
use Rattle.segmented_store.specs.Room.{room}
use Rattle.dirty_region.specs.Queues.{Queue}
use Rattle.dirty_mode.proofs.CommandLists.{size_most, taken}
use Rattle.dirty_mode.proofs.Flushing.{Keeps-trans, staying_few, staying_fits}
use Rattle.dirty_mode.proofs.commands.put.Goals as goal

pub unreachable-requires : goal.unreachable-requires
unreachable-requires g c =
    let f = c.in_ok-flush_for.ensures in let puts = c.args.dirty.now.queue.puts in let bytes = c.row_size.result in let most = c.args.most in
    let now = ap (λ (q : Queue). q.puts) f.queue in
    let size_is = c.row_size.ensures in
    let small = size_most c.key-key.result.now c.value-value.result.now c.key-key.ensures.most c.value-value.ensures.most in
    let some = c.requires.some in
    let fits : bytes ≤ most = omega (arith, size_is, small, some) in
    let few = staying_few most bytes puts in let long = ap length now in let room_was = c.requires.room in let room_is = f.kept.room in
    let low : length c.flush_for.new.dirty.queue.puts < c.flush_for.new.dirty.room = omega (arith, few, long, room_was, room_is) in
    let below = staying_fits most bytes fits puts in let bytes_are = ap live now in let above = c.requires.most in let held = ap room f.kept.segments.held in
    let need : live c.flush_for.new.dirty.queue.puts + size c.key-key.result.now c.value-value.result.now ≤ room (held_count c.flush_for.new.dirty.region) =
    omega (arith, below, bytes_are, above, held, size_is) in
    taken c.put.result c.in_default.field-0 _ _ _ _ c.in_default.is c.put.ensures.too_many c.put.ensures.no_room low need

pub returns-clause-kept : goal.returns-clause-kept
returns-clause-kept g c =
    Keeps-trans c.in_ok-flush_for.ensures.kept c.put.ensures.kept
