-- A write that is tried again took nothing and is no fault.
use Rattle.std.proofs.Common.{◌≡◌}
use Rattle.std.specs.Io.KnownBytes.{Keeps}
use Rattle.outside.proofs.write_sink.WriteSinkSink.write.Given as goal

abbrev pub invariant-loop : goal.invariant-loop
invariant-loop g l = record {
  none_taken : Keeps (g.W.Write.contents l.fn.self.device) (g.W.Write.contents l.self-inside.writer);
  no_fault : l.self-inside.faults ≡ l.fn.self.faults;
}
