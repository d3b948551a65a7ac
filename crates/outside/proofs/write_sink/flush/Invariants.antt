-- A flush, however often it is tried, writes nothing of its own.
use Rattle.std.specs.Io.KnownBytes.{Keeps}
use Rattle.outside.proofs.write_sink.flush.Given as goal

abbrev pub invariant-loop : goal.invariant-loop
invariant-loop g l = Keeps (g.W.Write.contents l.fn.writer) (g.W.Write.contents l.writer)
