use Rattle.std.proofs.Common.{◌≡◌, ℕ, ◌-◌, List, ◌∷◌, length, Some, sym, ap, subst, ◌∙◌}
use Rattle.regions.specs.Contents.{live_at}
use Rattle.fragments.specs.Fragment.{bytes_in}
use Rattle.fragments.specs.Store.{bytes_at, next_at, pieces_from}
use Rattle.fragments.specs.inside.Paths.{Leads}
use Rattle.fragments.proofs.Paths.{content_read, here_holds, leads_step, pieces_step}
use Rattle.fragments.proofs.pieces.Pieces.step.Goals as goal

pub invariant_of-self : goal.invariant_of-self
invariant_of-self c =
    let r = c.self.inside.region.now in let live = live_at r in let p = c.in-Some.place in let left = c.self.inside.left in
    let leads : Leads live (Some p) left = subst (λ o. Leads live o left) c.in-Some.is c.self.invariant in
    let read : c.bytes_in-bytes.result.now ≡ bytes_at live p = c.bytes_in-bytes.ensures ∙ ap bytes_in (content_read r p c.bytes.result.now c.bytes.ensures.content (here_holds live p left leads)) in
    subst (λ o. Leads live o (left - length c.bytes_in-bytes.result.now)) (sym c.next_of-self-inside.ensures)
    (subst (λ (b : List ℕ). Leads live (next_at live p) (left - length b)) (sym read) (leads_step live p left leads))

pub returns : goal.returns
returns c =
    let r = c.self.inside.region.now in let live = live_at r in let p = c.in-Some.place in let left = c.self.inside.left in
    let leads : Leads live (Some p) left = subst (λ o. Leads live o left) c.in-Some.is c.self.invariant in
    let read : c.bytes_in-bytes.result.now ≡ bytes_at live p = c.bytes_in-bytes.ensures ∙ ap bytes_in (content_read r p c.bytes.result.now c.bytes.ensures.content (here_holds live p left leads)) in
    sym c.self.view_is
    ∙ (ap (λ o. pieces_from live o) c.in-Some.is
    ∙ (pieces_step live p left leads
    ∙ (ap (λ (b : List ℕ). b ∷ pieces_from live (next_at live p)) (sym read) ∙ ap (λ o. c.bytes_in-bytes.result.now ∷ pieces_from live o) (sym c.next_of-self-inside.ensures))))
