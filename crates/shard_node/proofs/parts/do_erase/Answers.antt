-- A row goes, or there is none.
use Rattle.std.proofs.Common.{true, false, sym, ◌∙◌}
use Rattle.rows.specs.Key.{key_shown}
use Rattle.rows.specs.Operations.{erase_of}
use Rattle.shard_node.proofs.OwnParts.QuietParts.{erased, none_came, quiet_does}
use Rattle.shard_node.proofs.parts.do_erase.Goals as goal
use Rattle.shard_node.proofs.parts.do_erase.Goals.{then-erase, else-erase}

pub returns : goal.returns
returns c =
    let rows = c.args.store.now.rows in
    let number = c.args.number in
    let key = key_shown c.args.key in
    let did = c.erase.ensures in
    let came = none_came c.args.store.now _ c.requires.counted did.tickets.0 did.tickets.1 did.tickets.2 did.tickets.3 in
    elim c.if-erase.branch [
      | then-erase w ↦
          quiet_does _ (erase_of number key) _ _ _ _ _ _ _ _ (erased number key rows true (sym did.found ∙ w.if-erase.true)) c.note_done.ensures did.rows did.same came
          (rw w.kind-is at c.record.ensures.replies) c.record.ensures.room
      | else-erase w ↦
          quiet_does _ (erase_of number key) _ _ _ _ _ _ _ _ (erased number key rows false (sym did.found ∙ w.if-erase.false)) c.note_done.ensures did.rows did.same came
          (rw w.kind-is at c.record.ensures.replies) c.record.ensures.room
    ]
