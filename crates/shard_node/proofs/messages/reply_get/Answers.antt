-- The value is what was found behind the block.
use Rattle.std.proofs.Common.{length, drop, refl, ap, sym, ◌∙◌, subst, arith}
use Rattle.std.specs.List.{refill}
use Rattle.layout.specs.Sizes.{message_header}
use Rattle.rows.specs.Apply as apply
use Rattle.shard_memory.specs.declared.share.Share.{Share as Shares}
use Rattle.rows.specs.Key.{key_shown}
use Rattle.rows.specs.Operations.{get_of}
use Rattle.shard_rings.specs.Reply.{HoldsReply}
use Rattle.shard_store.specs.Lending.{found_in}
use Rattle.shard_store.specs.Works.{floor_of}
use Rattle.shard_node.proofs.Requests.Told.{noted, refill-whole, spare-left}
use Rattle.part_lemmas.proofs.Recording.{told-recorded}
use Rattle.row_lemmas.proofs.Laws.{evictions_are_counted-count}
use Rattle.shard_node.proofs.Lent.{lends-written}
use Rattle.shard_node.proofs.messages.reply_get.Goals as goal

pub note_done-requires : goal.note_done-requires
note_done-requires c =
    let h = c.lend_value-block.ensures.found in let store = c.args.store.now in
    let left = spare-left c.args.journal.now c.lend_value-block.new.evictions h.evicted h.rest store.rows (told-recorded c.args.journal.now c.lend_value-block.new.evictions h.evicted h.told)
    (evictions_are_counted-count (floor_of store.pages store.lent store.regions) store.rows h.rest h.evicted h.evicts) c.requires.spare in
    omega (arith, left)

pub returns-clause-replied : goal.returns-clause-replied
returns-clause-replied c =
    let block = c.lend_value-block.result.0 in let found = c.lend_value-block.result.1 in let answer = found_in found (drop message_header block.piece.bytes) in
    let number = c.args.number in let key = key_shown c.args.key in let store = c.args.store.now in
    let whole = refill-whole block.piece.bytes c.write_found.new.into (c.write_found.auto.into ∙ ap length c.bytes_mut.ensures.value) in
    let same = ap (λ bytes. found_in found (drop message_header bytes)) c.bytes_mut.ensures.value in (
      answer,
      subst (λ bytes. HoldsReply bytes number answer) (sym whole) (subst (HoldsReply c.write_found.new.into number) same c.write_found.ensures),
      noted told-recorded (floor_of store.pages store.lent store.regions) (get_of number key) (apply.get key) answer store c.lend_value-block.new.self
          c.args.journal.now c.lend_value-block.new.evictions c.note_done.new.journal (λ rows. refl) c.lend_value-block.ensures.found c.note_done.ensures,
    )

pub returns-clause-lends : goal.returns-clause-lends
returns-clause-lends c =
    let block = c.lend_value-block.result.0 in let bytes = refill (length block.piece.bytes) block.piece.bytes c.write_found.new.into in
    let same = c.write_found.auto.into ∙ ap length c.bytes_mut.ensures.value in let whole = refill-whole block.piece.bytes c.write_found.new.into same in
    lends-written Shares.Reply c.args.store.now c.lend_value-block.new.self block bytes (ap length whole ∙ same) c.lend_value-block.ensures.lends

pub returns-clause-size : goal.returns-clause-size
returns-clause-size c =
    let block = c.lend_value-block.result.0 in let same = c.write_found.auto.into ∙ ap length c.bytes_mut.ensures.value in
    ap length (refill-whole block.piece.bytes c.write_found.new.into same) ∙ same ∙ c.lend_value-block.ensures.size
