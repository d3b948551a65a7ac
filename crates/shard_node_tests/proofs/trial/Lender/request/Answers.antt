-- The block has the size of the request.
use Rattle.std.proofs.Common.{length, ap, ◌∙◌}
use Rattle.shard_node_tests.proofs.trial.Lender.request.Goals as goal

pub write_request-requires-clause-room : goal.write_request-requires-clause-room
write_request-requires-clause-room c =
    ap length c.bytes_mut.ensures.value ∙ c.in_ok-block.ensures.size ∙ c.request_size-size.ensures.size c.args.number
