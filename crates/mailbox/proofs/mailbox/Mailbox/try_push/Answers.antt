use Rattle.mailbox.proofs.Conserving.{pushes}
use Rattle.mailbox.proofs.mailbox.Mailbox.try_push.Goals as goal

pub try_push_as-requires-clause-rule : goal.try_push_as-requires-clause-rule
try_push_as-requires-clause-rule c = pushes _ _ _ _
