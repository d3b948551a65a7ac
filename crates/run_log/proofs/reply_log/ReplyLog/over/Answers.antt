-- No part is answered, and all room is left.
use Rattle.std.proofs.Common.{◌≡◌, arith, refl}
use Rattle.run_log.proofs.ReplyLists.{unanswered}
use Rattle.run_log.proofs.reply_log.ReplyLog.over.Goals as goal

pub returns : goal.returns
returns c =
    let all : c.loop.counter ≡ c.args.parts = omega arith in
    rw (c.loop.invariant, unanswered, all, c.in_ok-new.ensures) refl
