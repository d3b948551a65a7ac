use Rattle.std.proofs.Common.{arith}
use Rattle.key_index.proofs.Leads.{bytes_from}
use Rattle.key_index.proofs.shared.lead_from.Goals as goal

pub returns-clause-bytes : goal.returns-clause-bytes
returns-clause-bytes c = bytes_from c.args.key.now (λ i. omega (arith, c.type_inv.key i))
