-- What the first key of the body from there on is.
use Rattle.std.proofs.Common.{◌∷◌, ◌∙◌, ap, sym, subst}
use Rattle.std.proofs.lemmas.List.{take_rest}
use Rattle.rows.specs.KeyBody.{AreKeys, AreKeysAt}
use Rattle.run_log.proofs.KeyBodies.{next_cut}
use Rattle.run_log.proofs.keys.next_key.Goals as goal

pub returns-clause-first : goal.returns-clause-first
returns-clause-first c keys p =
    let body = c.args.body.now in
    let at = c.args.at in
    let key = c.in_ok-key.key.now in
    let cut = c.in_ok-key.ensures.first keys (subst (λ bytes. AreKeys bytes keys) (sym (take_rest body at)) p.rest) in
    let found = next_cut body at key cut.0 (subst (AreKeysAt body at) cut.1 p) in
    rw c.span_behind.ensures (cut.0, cut.1 ∙ ap (λ front. front ∷ cut.0) (sym found.0), found.1)
