-- So many parts are not answered.
use Rattle.std.proofs.Common.{◌≡◌, None, replicate}
use Rattle.run_log.proofs.reply_log.ReplyLog.over.Given as goal

abbrev pub invariant-loop : goal.invariant-loop
invariant-loop l = l.recorded.items ≡ replicate l.counter None
