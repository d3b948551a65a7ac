-- A put is written down behind the rows that went for it.
use Rattle.std.proofs.Common.{refl, arith}
use Rattle.rows.specs.Apply as apply
use Rattle.row_cache.specs.Rows.{reply_of}
use Rattle.rows.specs.Key.{key_shown}
use Rattle.rows.specs.Operations.{put_of}
use Rattle.shard_store.specs.Works.{pressure}
use Rattle.shard_node.proofs.Requests.Told.{noted, spare-left}
use Rattle.part_lemmas.proofs.Recording.{told-recorded}
use Rattle.row_lemmas.proofs.Laws.{evictions_are_counted-count}
use Rattle.shard_node.proofs.doing.put_row.Goals as goal

pub note_done-requires : goal.note_done-requires
note_done-requires c =
    let h = c.put-did.ensures.stored in
    let told = told-recorded in
    let store = c.args.store.now in
    let left = spare-left c.args.journal.now c.put-did.new.evictions h.evicted h.rest store.rows (told c.args.journal.now c.put-did.new.evictions h.evicted h.told)
    (evictions_are_counted-count (pressure store.pages store.lent store.regions) store.rows h.rest h.evicted h.evicts) c.requires.spare in
    omega (arith, left)

pub returns-clause-does : goal.returns-clause-does
returns-clause-does c =
    let store = c.args.store.now in
    let number = c.args.number in
    let key = key_shown c.args.key in
    let value = c.args.value.now in
    noted told-recorded (pressure store.pages store.lent store.regions) (put_of number key value) (apply.put key value number) (reply_of c.put-did.result) store c.put-did.new.self
    c.args.journal.now c.put-did.new.evictions c.note_done.new.journal (λ rows. refl) c.put-did.ensures.stored c.note_done.ensures
