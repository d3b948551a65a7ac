use Rattle.std.proofs.Common.{refl}
use Rattle.text_lemmas.proofs.Written.{Writes-flushed}
use Rattle.text_out.proofs.writer.Writer.flush.Goals as goal

pub returns-clause-wrote : goal.returns-clause-wrote
returns-clause-wrote g c =
    let sent = c.in_ok-write_all.ensures in
    rw (← c.self.view_is) (Writes-flushed _ _ (rw c.bytes.ensures at sent.written) c.clear.ensures refl sent.never_falls)
