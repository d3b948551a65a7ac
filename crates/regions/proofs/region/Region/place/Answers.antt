use Rattle.std.proofs.Common.{◌≡◌, ℕ, ◌-◌, List, replicate, ap, ◌∙◌, subst, arith}
use Rattle.std.specs.Prelude.{Some}
use Rattle.std.proofs.lemmas.Result.{IfOk-weaker}
use Rattle.object_log.specs.Contents.{bytes_of, padded}
use Rattle.regions.specs.Contents.{holding, ChangesAt}
use Rattle.regions.proofs.region.Region.place.Goals as goal

pub place_with-requires-clause-content : goal.place_with-requires-clause-content
place_with-requires-clause-content c = let none = c.zeros.ensures.length in omega (arith, none, c.requires.size.0)

pub returns-clause-added : goal.returns-clause-added
returns-clause-added c =
    let a = c.args in
    let is : padded (a.size - 8) (bytes_of c.zeros.result) ≡ replicate (a.size - 8) 0 = ap (padded (a.size - 8)) c.zeros.ensures.bytes ∙ ap (λ (n : ℕ). replicate n 0) (omega arith) in
    IfOk-weaker c.place_with.result _ _
    (λ place changes. subst (λ (ws : List ℕ). ChangesAt place (Some (holding (Some a.group) a.kind ws)) a.self.now c.place_with.new.self) is changes) c.place_with.ensures.added
