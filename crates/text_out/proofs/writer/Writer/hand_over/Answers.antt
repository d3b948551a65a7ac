use Rattle.std.proofs.Common.{refl, ap, ◌∙◌}
use Rattle.text_lemmas.specs.Writing.{Output}
use Rattle.text_lemmas.proofs.Written.{Writes-then, Writes-sent}
use Rattle.text_out.proofs.writer.Writer.hand_over.Goals as goal

pub returns : goal.returns
returns g c =
    let empty = ap (λ (o : Output). o.block) c.self.view_is ∙ c.in_ok-flush.ensures.empty in
    let sent = c.write_all.ensures in
    Writes-then c.in_ok-flush.ensures.wrote (rw (← c.self.view_is) (Writes-sent _ _ _ _ empty empty refl sent.written sent.front sent.failed sent.never_falls))
