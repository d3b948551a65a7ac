use Rattle.shard_memory.proofs.Filling.{most, none}
use Rattle.shard_memory.proofs.law.segments_fill_the_pages.Goals as goal

pub returns-clause-most : goal.returns-clause-most
returns-clause-most c = most

pub returns-clause-none : goal.returns-clause-none
returns-clause-none c = none
