use Rattle.trace_text.specs.Parsed.{trace_in}
use Rattle.part_lemmas.proofs.Cursors.Places.{numbered}
use Rattle.shard_node.proofs.Together.OneDone.{complete-node}
use Rattle.cache_lemmas.proofs.Laws.{issued_parts_are_counted-peer, a_journal_goes_on-number}
use Rattle.shard_node.proofs.law.a_done_node_is_complete.Goals as goal

pub returns : goal.returns
returns g c traffic holds trace n pages s node are done =
    complete-node traffic holds issued_parts_are_counted-peer a_journal_goes_on-number (trace_in trace) n pages (numbered trace.bytes trace.commands are) s node done
