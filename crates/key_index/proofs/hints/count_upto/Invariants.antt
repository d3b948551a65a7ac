use Rattle.std.proofs.Common.{◌+◌, ◌≤◌, length}
use Rattle.key_index.proofs.hints.count_upto.Given as goal

abbrev pub invariant-loop-len : goal.invariant-loop-len
invariant-loop-len l = record {
  within : l.low + l.len ≤ length l.leads;
}

abbrev pub decreases-loop-len : goal.decreases-loop-len
decreases-loop-len l = l.len

abbrev pub invariant-loop-next : goal.invariant-loop-next
invariant-loop-next l = record {
  upto : l.at ≤ l.next;
}
