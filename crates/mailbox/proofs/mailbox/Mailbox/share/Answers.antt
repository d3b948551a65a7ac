use Rattle.mailbox.proofs.Conserving.{forks}
use Rattle.mailbox.proofs.mailbox.Mailbox.share.Goals as goal

pub another-pass-requires-clause-rule : goal.another-pass-requires-clause-rule
another-pass-requires-clause-rule c = forks _ _
