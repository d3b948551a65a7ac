-- The walk begins with the logs of the journals before.
use Rattle.report_check.proofs.Begun.{begins}
use Rattle.report_check.proofs.WalkedThrough.{if-walked}
use Rattle.report_check.proofs.walking.walk_journal.Goals as goal

pub walk_through-found-requires-clause-stands : goal.walk_through-found-requires-clause-stands
walk_through-found-requires-clause-stands c =
    let logs = c.requires.logs in
    (c.args.pages, logs.0, begins c.args.trace.now c.args.pages c.args.shard logs.0 c.in_ok-walk.walk c.args.logs.now c.requires.shard logs.1 c.in_ok-walk.ensures logs.2)

pub returns : goal.returns
returns c =
    if-walked c.args.trace.now c.args.pages c.args.shard c.args.entries.now c.in_ok-walk.walk c.args.logs.now c.walk_through-found.new.logs c.walk_through-found.result
    (λ walked many are. begins c.args.trace.now c.args.pages c.args.shard walked c.in_ok-walk.walk c.args.logs.now c.requires.shard many c.in_ok-walk.ensures are)
    c.walk_through-found.ensures
