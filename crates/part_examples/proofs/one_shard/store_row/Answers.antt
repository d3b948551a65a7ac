use Rattle.part_examples.proofs.one_shard.store_row.Goals as goal

pub returns-clause-stored : goal.returns-clause-stored
returns-clause-stored c = (c.put.ensures.stored.rest, c.put.ensures.stored.rows)
