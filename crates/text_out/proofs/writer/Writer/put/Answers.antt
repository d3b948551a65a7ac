use Rattle.std.proofs.Common.{refl, ap, ◌∙◌}
use Rattle.text_lemmas.specs.Writing.{Output}
use Rattle.text_lemmas.proofs.Written.{Writes-then, Writes-sent}
use Rattle.text_out.proofs.writer.Writer.put.Goals as goal

pub returns : goal.returns
returns g c =
    let same = c.try_add.ensures.full c.if-try_add.false in
    let empty = ap (λ (o : Output). o.block) c.self-2.view_is ∙ c.in_ok-flush.ensures.empty in
    let after = c.try_add-2.ensures.full c.if-try_add-2.false ∙ empty in
    let sent = c.write_all.ensures in
    Writes-then (rw (same, c.self.view_is) at c.in_ok-flush.ensures.wrote)
    (rw (← c.self-2.view_is) (Writes-sent _ _ _ _ empty after refl sent.written sent.front sent.failed sent.never_falls))
