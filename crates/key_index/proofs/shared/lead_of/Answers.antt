use Rattle.key_index.proofs.Leads.{bytes_from}
use Rattle.key_index.proofs.shared.lead_of.Goals as goal

pub returns-in-empty-clause-bytes : goal.returns-in-empty-clause-bytes
returns-in-empty-clause-bytes c = bytes_from c.args.key.now (λ i. (c.type_inv.key i).fits)

pub returns-in-len1-clause-bytes : goal.returns-in-len1-clause-bytes
returns-in-len1-clause-bytes c = bytes_from c.args.key.now (λ i. (c.type_inv.key i).fits)

pub returns-in-len2-clause-bytes : goal.returns-in-len2-clause-bytes
returns-in-len2-clause-bytes c = bytes_from c.args.key.now (λ i. (c.type_inv.key i).fits)

pub returns-in-len3-clause-bytes : goal.returns-in-len3-clause-bytes
returns-in-len3-clause-bytes c = bytes_from c.args.key.now (λ i. (c.type_inv.key i).fits)

pub returns-in-len4-clause-bytes : goal.returns-in-len4-clause-bytes
returns-in-len4-clause-bytes c = bytes_from c.args.key.now (λ i. (c.type_inv.key i).fits)

pub returns-in-len5-clause-bytes : goal.returns-in-len5-clause-bytes
returns-in-len5-clause-bytes c = bytes_from c.args.key.now (λ i. (c.type_inv.key i).fits)

pub returns-in-len6-clause-bytes : goal.returns-in-len6-clause-bytes
returns-in-len6-clause-bytes c = bytes_from c.args.key.now (λ i. (c.type_inv.key i).fits)

pub returns-in-len7-clause-bytes : goal.returns-in-len7-clause-bytes
returns-in-len7-clause-bytes c = bytes_from c.args.key.now (λ i. (c.type_inv.key i).fits)

pub returns-in-len8-up-clause-bytes : goal.returns-in-len8-up-clause-bytes
returns-in-len8-up-clause-bytes c = bytes_from c.args.key.now (λ i. (c.type_inv.key i).fits)
