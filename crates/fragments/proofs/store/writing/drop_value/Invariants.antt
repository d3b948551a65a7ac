use Rattle.std.proofs.Common.{length}
use Rattle.fragments.specs.Chains.{chain_at}
use Rattle.fragments.proofs.Dropping.{IsDropping}
use Rattle.fragments.proofs.store.writing.drop_value.Given as goal

abbrev pub invariant-loop-place : goal.invariant-loop-place
invariant-loop-place l = IsDropping l.fn.tables l.tables l.fn.region l.region l.name

abbrev pub decreases-loop-place : goal.decreases-loop-place
decreases-loop-place l = length (chain_at l.tables.chains l.name)
