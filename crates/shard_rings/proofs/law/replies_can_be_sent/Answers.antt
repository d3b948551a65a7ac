use Rattle.shard_rings.proofs.Replied.{send_kind}
use Rattle.row_lemmas.proofs.Laws.{scanned_keys_are_in_order-among}
use Rattle.shard_rings.proofs.law.replies_can_be_sent.Goals as goal

pub returns : goal.returns
returns c operation cache askable sendable =
    send_kind scanned_keys_are_in_order-among operation.kind operation cache askable.fields sendable
