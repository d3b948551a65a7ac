-- A read that is tried again took nothing and is no fault.
use Rattle.std.proofs.Common.{◌≡◌, length}
use Rattle.std.specs.Io.KnownBytes.{Keeps}
use Rattle.outside.proofs.read_source.ReadSourceSource.read.Given as goal

abbrev pub invariant-loop : goal.invariant-loop
invariant-loop g l = record {
  same_length : length l.into ≡ length l.fn.into;
  none_lost : Keeps (g.R.Read.remaining l.fn.self.device) (g.R.Read.remaining l.self-inside.reader);
  no_fault : l.self-inside.faults ≡ l.fn.self.faults;
}
