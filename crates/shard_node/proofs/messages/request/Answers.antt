-- The block is written over, and stays lent.
use Rattle.std.proofs.Common.{length, refl, sym, ap, ◌∙◌}
use Rattle.std.specs.List.{refill, length_refill}
use Rattle.shard_memory.specs.declared.share.Share.{Share as Shares}
use Rattle.shard_node.proofs.Requests.Told.{evicted}
use Rattle.part_lemmas.proofs.Recording.{told-recorded}
use Rattle.shard_node.proofs.Lent.{lends-written}
use Rattle.shard_node.proofs.messages.request.Goals as goal

pub request_size-size-requires-clause-key : goal.request_size-size-requires-clause-key
request_size-size-requires-clause-key c = c.requires.askable.key

pub request_size-size-requires-clause-value : goal.request_size-size-requires-clause-value
request_size-size-requires-clause-value c = c.requires.askable.value

pub write_request-requires-clause-room : goal.write_request-requires-clause-room
write_request-requires-clause-room c =
    ap length c.bytes_mut.ensures.value ∙ c.lend-block.ensures.size ∙ c.request_size-size.ensures.size c.args.number

pub returns-clause-lends : goal.returns-clause-lends
returns-clause-lends c =
    let block = c.lend-block.result in let bytes = refill (length block.piece.bytes) block.piece.bytes c.write_request.new.into in
    lends-written Shares.Request c.args.store.now c.lend-block.new.self block bytes (sym (length_refill (length block.piece.bytes) block.piece.bytes c.write_request.new.into refl)) c.lend-block.ensures.lends

pub returns-clause-evicted : goal.returns-clause-evicted
returns-clause-evicted c = evicted told-recorded c.args.store.now c.lend-block.new.self c.args.journal.now c.lend-block.new.evictions c.lend-block.ensures.evicted
