use Rattle.std.proofs.Common.{refl}
use Rattle.mailbox.proofs.Conserving.{pops}
use Rattle.mailbox.proofs.mailbox.Mailbox.try_pop.Goals as goal

pub try_pop_as-requires-clause-rule : goal.try_pop_as-requires-clause-rule
try_pop_as-requires-clause-rule c = pops _ _

pub returns-in-Some-clause-refused : goal.returns-in-Some-clause-refused
returns-in-Some-clause-refused c = λ none. absurd (none c.in-Some.message refl)
