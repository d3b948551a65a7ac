use Rattle.trace_text.specs.Parsed.{trace_in}
use Rattle.part_lemmas.proofs.Cursors.Places.{numbered}
use Rattle.shard_node.proofs.Together.AllDone.{agree}
use Rattle.cache_lemmas.proofs.Laws.{issued_parts_are_counted-peer, a_journal_goes_on-number}
use Rattle.shard_node.proofs.law.done_nodes_agree.Goals as goal

pub returns : goal.returns
returns g c traffic holds trace n pages nodes are some together =
    agree traffic holds issued_parts_are_counted-peer a_journal_goes_on-number c.a_message_is_one_reply.ensures.reply (trace_in trace) n pages nodes
    (numbered trace.bytes trace.commands are) some together
