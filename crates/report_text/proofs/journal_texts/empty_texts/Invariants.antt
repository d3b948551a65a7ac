-- Each shard so far has its text.
use Rattle.std.proofs.Common.{◌≡◌, length}
use Rattle.report_text.proofs.journal_texts.empty_texts.Given as goal

abbrev pub invariant-loop-shard : goal.invariant-loop-shard
invariant-loop-shard l = length l.texts.items ≡ l.shard
