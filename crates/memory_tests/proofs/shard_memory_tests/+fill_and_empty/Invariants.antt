use Rattle.memory_tests.proofs.shard_memory_tests.+fill_and_empty.Given as goal

abbrev pub decreases-fill_and_empty : goal.decreases-fill_and_empty
decreases-fill_and_empty l = l.most
