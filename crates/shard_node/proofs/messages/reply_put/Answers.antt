-- The put is done behind the block, and behind the rows that went for it.
use Rattle.std.proofs.Common.{◌≡◌, ◌⊎◌, ◌<◌, ℕ, true, length, ap, sym, ◌∙◌, subst}
use Rattle.std.specs.List.{refill}
use Rattle.rows.specs.Apply.{has}
use Rattle.row_cache.specs.Rows.{reply_of}
use Rattle.shard_memory.specs.declared.share.Share.{Share as Shares}
use Rattle.rows.specs.Key.{key_shown}
use Rattle.rows.specs.Operations.{put_of}
use Rattle.shard_rings.specs.Reply.{HoldsReply}
use Rattle.shard_store.specs.Works.{floor_of, pressure}
use Rattle.shard_node.proofs.Requests.Told.{done-behind, evicted, place-kept, refill-whole, spare-left}
use Rattle.row_lemmas.proofs.Laws.{evictions_are_counted-count}
use Rattle.part_lemmas.proofs.Recording.{told-recorded}
use Rattle.shard_node.proofs.Lent.{lends-later, lends-written}
use Rattle.shard_node.proofs.messages.reply_put.Goals as goal

pub put_row-did-requires-clause-tables : goal.put_row-did-requires-clause-tables
put_row-did-requires-clause-tables c =
    let store = c.args.store.now in let e = c.lend-block.ensures.evicted in let key = key_shown c.args.key in let mid = c.lend-block.new.self in
    let count = evictions_are_counted-count (floor_of store.pages store.lent store.regions) store.rows mid.rows e.evicted e.evicts in
    subst (λ (most : ℕ). (has key mid.rows ≡ true) ⊎ (length mid.rows < most)) (sym e.same.room)
    (place-kept (floor_of store.pages store.lent store.regions) store.room key store.rows mid.rows e.evicted e.evicts count c.requires.within c.requires.room)

pub put_row-did-requires-clause-spare : goal.put_row-did-requires-clause-spare
put_row-did-requires-clause-spare c =
    let store = c.args.store.now in let e = c.lend-block.ensures.evicted in
    spare-left c.args.journal.now c.lend-block.new.evictions e.evicted c.lend-block.new.self.rows store.rows (told-recorded c.args.journal.now c.lend-block.new.evictions e.evicted e.told)
    (evictions_are_counted-count (floor_of store.pages store.lent store.regions) store.rows c.lend-block.new.self.rows e.evicted e.evicts) c.requires.spare

pub returns-clause-replied : goal.returns-clause-replied
returns-clause-replied c =
    let block = c.lend-block.result in let answer = reply_of c.put_row-did.result in let mid = c.lend-block.new.self in
    let whole = refill-whole block.piece.bytes c.write_stored.new.into (c.write_stored.auto.into ∙ ap length c.bytes_mut.ensures.value) in (
      answer,
      subst (λ bytes. HoldsReply bytes c.args.number answer) (sym whole) c.write_stored.ensures,
      done-behind (pressure mid.pages mid.lent mid.regions) (put_of c.args.number (key_shown c.args.key) c.args.value.now) answer c.args.store.now mid c.put_row-did.new.store c.args.journal.now c.lend-block.new.evictions c.put_row-did.new.journal c.lend-block.ensures.floor
          (evicted told-recorded c.args.store.now mid c.args.journal.now c.lend-block.new.evictions c.lend-block.ensures.evicted) c.put_row-did.ensures.does,
    )

pub returns-clause-lends : goal.returns-clause-lends
returns-clause-lends c =
    let block = c.lend-block.result in let bytes = refill (length block.piece.bytes) block.piece.bytes c.write_stored.new.into in
    let same = c.write_stored.auto.into ∙ ap length c.bytes_mut.ensures.value in let whole = refill-whole block.piece.bytes c.write_stored.new.into same in
    lends-written Shares.Reply c.args.store.now c.put_row-did.new.store block bytes (ap length whole ∙ same)
    (lends-later Shares.Reply c.args.store.now c.lend-block.new.self c.put_row-did.new.store block c.lend-block.ensures.lends c.put_row-did.ensures.came)

pub returns-clause-size : goal.returns-clause-size
returns-clause-size c =
    let block = c.lend-block.result in let same = c.write_stored.auto.into ∙ ap length c.bytes_mut.ensures.value in
    ap length (refill-whole block.piece.bytes c.write_stored.new.into same) ∙ same ∙ c.lend-block.ensures.size
