-- The keys are those that were found behind the block.
use Rattle.std.proofs.Common.{length, take, drop, refl, ap, sym, ◌∙◌, subst, arith}
use Rattle.std.specs.List.{refill}
use Rattle.layout.specs.Sizes.{message_header}
use Rattle.rows.specs.declared.reply_kind.ReplyKind.TheVariants as replies
use Rattle.rows.specs.Apply.{Keys, scanned}
use Rattle.shard_memory.specs.declared.share.Share.{Share as Shares}
use Rattle.rows.specs.Key.{key_shown}
use Rattle.rows.specs.Operations.{scan_of}
use Rattle.shard_rings.specs.Reply.{HoldsReply}
use Rattle.shard_store.specs.Works.{floor_of}
use Rattle.shard_node.proofs.Requests.Told.{evicted, few-scanned, quiet-behind, refill-whole, same-store, spare-left}
use Rattle.part_lemmas.proofs.Recording.{told-recorded}
use Rattle.row_lemmas.proofs.Laws.{evictions_are_counted-count}
use Rattle.shard_node.proofs.Lent.{lends-written}
use Rattle.shard_node.proofs.messages.reply_scan.Goals as goal

pub note_done-requires : goal.note_done-requires
note_done-requires c =
    let e = c.lend_keys-block.ensures.evicted in let store = c.args.store.now in let mid = c.lend_keys-block.new.self in
    let left = spare-left c.args.journal.now c.lend_keys-block.new.evictions e.evicted mid.rows store.rows (told-recorded c.args.journal.now c.lend_keys-block.new.evictions e.evicted e.told)
    (evictions_are_counted-count (floor_of store.pages store.lent store.regions) store.rows mid.rows e.evicted e.evicts) c.requires.spare in
    omega (arith, left)

pub returns-clause-replied : goal.returns-clause-replied
returns-clause-replied c =
    let block = c.lend_keys-block.result.0 in let mid = c.lend_keys-block.new.self in let number = c.args.number in let from = key_shown c.args.from in let count = c.args.count in let e = c.lend_keys-block.ensures in
    let keys = scanned from count mid.rows in let answer = Keys keys in
    let whole = refill-whole block.piece.bytes c.write_reply_header.new.into (c.write_reply_header.auto.into ∙ ap length c.bytes_mut.ensures.value) in
    let body = ap (λ bytes. take c.lend_keys-block.result.1.bytes (drop message_header bytes)) c.bytes_mut.ensures.value in
    let fields = c.requires.askable.fields in
    let holds = c.write_reply_header.ensures.holds answer (few-scanned from count mid.rows fields.2, e.keys.lengths)
    (ap (λ bytes. (replies.Keys, bytes)) (sym (body ∙ e.keys.spelled))) (sym e.count) in (
      answer,
      subst (λ bytes. HoldsReply bytes number answer) (sym whole) holds,
      quiet-behind (scan_of number from count) answer mid.rows c.args.store.now mid mid c.args.journal.now c.lend_keys-block.new.evictions c.note_done.new.journal
          (evicted told-recorded c.args.store.now mid c.args.journal.now c.lend_keys-block.new.evictions e.evicted) c.note_done.ensures
          refl refl (same-store mid),
    )

pub returns-clause-lends : goal.returns-clause-lends
returns-clause-lends c =
    let block = c.lend_keys-block.result.0 in let bytes = refill (length block.piece.bytes) block.piece.bytes c.write_reply_header.new.into in
    let same = c.write_reply_header.auto.into ∙ ap length c.bytes_mut.ensures.value in let whole = refill-whole block.piece.bytes c.write_reply_header.new.into same in
    lends-written Shares.Reply c.args.store.now c.lend_keys-block.new.self block bytes (ap length whole ∙ same) c.lend_keys-block.ensures.lends

pub lend_keys-block-requires-clause-some : goal.lend_keys-block-requires-clause-some
lend_keys-block-requires-clause-some c = c.requires.askable.fields.1

pub lend_keys-block-requires-clause-few : goal.lend_keys-block-requires-clause-few
lend_keys-block-requires-clause-few c = c.requires.askable.fields.2

pub lend_keys-block-requires-clause-most : goal.lend_keys-block-requires-clause-most
lend_keys-block-requires-clause-most c = let few = c.requires.askable.fields.2 in omega (arith, few)

pub write_reply_header-requires-clause-keys : goal.write_reply_header-requires-clause-keys
write_reply_header-requires-clause-keys c =
    let few = few-scanned (key_shown c.args.from) c.args.count c.lend_keys-block.new.self.rows c.requires.askable.fields.2 in
    let count = c.lend_keys-block.ensures.count in
    omega (arith, few, count)

pub write_reply_header-requires-clause-room : goal.write_reply_header-requires-clause-room
write_reply_header-requires-clause-room c =
    let within = c.lend_keys-block.ensures.within in let same = ap length c.bytes_mut.ensures.value in omega (arith, within, same)

pub returns-clause-size : goal.returns-clause-size
returns-clause-size c =
    let block = c.lend_keys-block.result.0 in let same = c.write_reply_header.auto.into ∙ ap length c.bytes_mut.ensures.value in
    ap length (refill-whole block.piece.bytes c.write_reply_header.new.into same) ∙ same ∙ c.lend_keys-block.ensures.size
