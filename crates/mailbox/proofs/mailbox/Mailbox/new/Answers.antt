use Rattle.mailbox.proofs.Conserving.{begins}
use Rattle.mailbox.proofs.mailbox.Mailbox.new.Goals as goal

pub ruled-requires-clause-rule : goal.ruled-requires-clause-rule
ruled-requires-clause-rule c = begins
