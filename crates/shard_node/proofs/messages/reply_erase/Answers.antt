-- The row goes behind the block.
use Rattle.std.proofs.Common.{cond, length, ap, sym, ◌∙◌, subst, arith}
use Rattle.std.specs.List.{refill}
use Rattle.rows.specs.Apply.{Erased, Missing, without}
use Rattle.shard_memory.specs.declared.share.Share.{Share as Shares}
use Rattle.rows.specs.Key.{key_shown}
use Rattle.rows.specs.Operations.{erase_of}
use Rattle.shard_rings.specs.Reply.{HoldsReply}
use Rattle.shard_store.specs.Works.{floor_of}
use Rattle.shard_node.proofs.OwnParts.QuietParts.{erased, none_came}
use Rattle.shard_node.proofs.Standing.Counted.{lent_backs}
use Rattle.shard_node.proofs.Requests.Told.{evicted, quiet-behind, refill-whole, spare-left}
use Rattle.part_lemmas.proofs.Recording.{told-recorded}
use Rattle.row_lemmas.proofs.Laws.{evictions_are_counted-count}
use Rattle.shard_node.proofs.Lent.{lends-later, lends-written}
use Rattle.shard_node.proofs.messages.reply_erase.Goals as goal

pub note_done-requires : goal.note_done-requires
note_done-requires c =
    let e = c.lend-block.ensures.evicted in let store = c.args.store.now in let mid = c.lend-block.new.self in
    let left = spare-left c.args.journal.now c.lend-block.new.evictions e.evicted mid.rows store.rows (told-recorded c.args.journal.now c.lend-block.new.evictions e.evicted e.told)
    (evictions_are_counted-count (floor_of store.pages store.lent store.regions) store.rows mid.rows e.evicted e.evicts) c.requires.spare in
    omega (arith, left)

pub returns-clause-replied : goal.returns-clause-replied
returns-clause-replied c =
    let block = c.lend-block.result in let mid = c.lend-block.new.self in let did = c.erase-was_there.ensures in let number = c.args.number in let key = key_shown c.args.key in
    let answer = cond c.erase-was_there.result Erased Missing in
    let whole = refill-whole block.piece.bytes c.write_erased.new.into (c.write_erased.auto.into ∙ ap length c.bytes_mut.ensures.value) in (
      answer,
      subst (λ bytes. HoldsReply bytes number answer) (sym whole) c.write_erased.ensures,
      quiet-behind (erase_of number key) answer (without key mid.rows) c.args.store.now mid c.erase-was_there.new.self c.args.journal.now c.lend-block.new.evictions c.note_done.new.journal
          (evicted told-recorded c.args.store.now mid c.args.journal.now c.lend-block.new.evictions c.lend-block.ensures.evicted) c.note_done.ensures
          (erased number key mid.rows c.erase-was_there.result (sym did.found)) did.rows did.same,
    )

pub returns-clause-lends : goal.returns-clause-lends
returns-clause-lends c =
    let block = c.lend-block.result in let bytes = refill (length block.piece.bytes) block.piece.bytes c.write_erased.new.into in let mid = c.lend-block.new.self in
    let same = c.write_erased.auto.into ∙ ap length c.bytes_mut.ensures.value in let whole = refill-whole block.piece.bytes c.write_erased.new.into same in
    let t = c.erase-was_there.ensures.tickets in
    lends-written Shares.Reply c.args.store.now c.erase-was_there.new.self block bytes (ap length whole ∙ same)
    (lends-later Shares.Reply c.args.store.now mid c.erase-was_there.new.self block c.lend-block.ensures.lends (none_came mid c.erase-was_there.new.self (lent_backs Shares.Reply c.args.store.now mid block c.lend-block.ensures.lends) t.0 t.1 t.2 t.3))

pub returns-clause-size : goal.returns-clause-size
returns-clause-size c =
    let block = c.lend-block.result in let same = c.write_erased.auto.into ∙ ap length c.bytes_mut.ensures.value in
    ap length (refill-whole block.piece.bytes c.write_erased.new.into same) ∙ same ∙ c.lend-block.ensures.size
