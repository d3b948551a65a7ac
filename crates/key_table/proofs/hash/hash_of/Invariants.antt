use Rattle.std.proofs.Common.{◌≡◌}
use Rattle.key_table.specs.Hash.{hash_upto}
use Rattle.key_table.proofs.hash.hash_of.Given as goal

abbrev pub invariant-loop-count : goal.invariant-loop-count
invariant-loop-count l = l.hash ≡ hash_upto l.key l.count
