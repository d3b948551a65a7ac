-- A look-up.
use Rattle.std.proofs.Common.{◌≡◌}
use Rattle.rows.specs.Key.{key_shown}
use Rattle.rows.specs.Operations.{get_of}
use Rattle.shard_node.proofs.OwnParts.QuietParts.{got_none, got_some, quiet_does, same_but_links}
use Rattle.shard_node.proofs.parts.do_get.Goals as goal

pub returns-in-Some : goal.returns-in-Some
returns-in-Some c =
    let found = c.in-Some.ensures.row in
    let value : c.in-Some.value.now ≡ found.0.value = found.2 in
    let after = c.get.follows.holds-at-none in
    let same = same_but_links c.args.store.now _ _ after.0 after.1.shape c.requires.counted in
    quiet_does _ (get_of c.args.number (key_shown c.args.key)) _ _ _ _ _ _ _ _ (got_some c.args.number (key_shown c.args.key) c.args.store.now.rows found.0 found.1) c.note_done.ensures same.0 same.1 same.2
    (rw value at c.record_value.ensures.replies) (rw value at c.record_value.ensures.room)

pub returns-in-None : goal.returns-in-None
returns-in-None c =
    let after = c.get.follows.holds-at-none in
    let same = same_but_links c.args.store.now _ _ after.0 after.1.shape c.requires.counted in
    quiet_does _ (get_of c.args.number (key_shown c.args.key)) _ _ _ _ _ _ _ _ (got_none c.args.number (key_shown c.args.key) c.args.store.now.rows c.in-None.ensures.row) c.note_done.ensures same.0 same.1 same.2
    c.record.ensures.replies c.record.ensures.room
