-- The keys are copied into the log.
use Rattle.std.proofs.Common.{refl}
use Rattle.rows.specs.Apply.{Keys, scanned}
use Rattle.rows.specs.Key.{key_shown}
use Rattle.rows.specs.Operations.{scan_of}
use Rattle.shard_node.proofs.OwnParts.QuietParts.{quiet_does, same_but_rows}
use Rattle.shard_node.proofs.parts.do_scan.Goals as goal

pub scan-scanned-requires-clause-some : goal.scan-scanned-requires-clause-some
scan-scanned-requires-clause-some c = c.requires.askable.fields.1

pub scan-scanned-requires-clause-most : goal.scan-scanned-requires-clause-most
scan-scanned-requires-clause-most c = c.requires.askable.fields.2

pub returns : goal.returns
returns c =
    let rows = c.args.store.now.rows in
    let from = key_shown c.args.from in
    let did = c.scan-scanned.ensures in
    let same = same_but_rows c.args.store.now _ rows did.unchanged c.requires.counted in
    quiet_does _ (scan_of c.args.number from c.args.count) (Keys (scanned from c.args.count rows)) rows _ _ _ _ _ _ refl c.note_done.ensures same.0 same.1 same.2
    (rw did.keys.spelled at c.record.ensures.replies) (rw did.keys.spelled at c.record.ensures.room)
