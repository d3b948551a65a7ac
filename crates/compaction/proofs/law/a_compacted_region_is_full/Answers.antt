use Rattle.compaction.proofs.Full.{most-where-compacted, live-where-compacted}
use Rattle.compaction.proofs.law.a_compacted_region_is_full.Goals as goal

pub returns-clause-most : goal.returns-clause-most
returns-clause-most c = most-where-compacted

pub returns-clause-full : goal.returns-clause-full
returns-clause-full c = live-where-compacted
