use Rattle.std.proofs.Common.{◌≡◌, true, false, ◌-◌, ◌≤◌, Some, subst, arith, sym, ap, ◌∙◌}
use Rattle.std.specs.Prelude.{IsSome, is_some}
use Rattle.object_log.specs.Objects.{objects}
use Rattle.object_log.specs.Contents.{bytes_of, padded}
use Rattle.regions.specs.Counts.{live_in}
use Rattle.regions.proofs.Objects.{live-below}
use Rattle.regions.proofs.Appended.{is-new, live-grown, slot-same, unused, changed}
use Rattle.regions.proofs.segment.Segment.append.Goals as goal

pub invariant_of-self : goal.invariant_of-self
invariant_of-self c =
    let i = c.self.inside in let v = c.self.invariant in let a = c.append_with-self-inside in let e = a.ensures in
    let begun : IsSome i.group = subst (λ h. IsSome h.group) (sym c.self.view_is) c.requires.begun in
    let is = is-new i.piece i.group c.bytes_mut.result.now a.new.segment (padded (c.args.size - 8) (bytes_of c.args.content)) i.used c.args.kind c.args.size a.result v.0 c.bytes_mut.ensures.value a.auto.segment (v.2 begun) e.used e.added e.content e.below c.args.self.now c.self.view_is in
    (rw is (a.auto.segment ∙ rw c.bytes_mut.ensures.value v.0), (λ f. absurd (let clash : false ≡ true = sym (ap is_some f) ∙ begun in cc)), (λ f. rw is e.segment))

pub returns-clause-live : goal.returns-clause-live
returns-clause-live c =
    let i = c.self.inside in let v = c.self.invariant in let a = c.append_with-self-inside in let e = a.ensures in
    let begun : IsSome i.group = subst (λ h. IsSome h.group) (sym c.self.view_is) c.requires.begun in
    live-grown i.piece i.group c.bytes_mut.result.now a.new.segment (padded (c.args.size - 8) (bytes_of c.args.content)) i.used c.args.kind c.args.size a.result v.0 c.bytes_mut.ensures.value a.auto.segment (v.2 begun) e.used e.added e.content e.below c.args.self.now c.self.view_is

pub returns-clause-slot : goal.returns-clause-slot
returns-clause-slot c =
    let i = c.self.inside in let v = c.self.invariant in let a = c.append_with-self-inside in let e = a.ensures in
    let begun : IsSome i.group = subst (λ h. IsSome h.group) (sym c.self.view_is) c.requires.begun in
    slot-same i.piece i.group c.bytes_mut.result.now a.new.segment (padded (c.args.size - 8) (bytes_of c.args.content)) i.used c.args.kind c.args.size a.result v.0 c.bytes_mut.ensures.value a.auto.segment (v.2 begun) e.used e.added e.content e.below c.args.self.now c.self.view_is

pub returns-clause-unused : goal.returns-clause-unused
returns-clause-unused c =
    let i = c.self.inside in let v = c.self.invariant in let a = c.append_with-self-inside in let e = a.ensures in
    let begun : IsSome i.group = subst (λ h. IsSome h.group) (sym c.self.view_is) c.requires.begun in
    unused i.piece i.group c.bytes_mut.result.now a.new.segment (padded (c.args.size - 8) (bytes_of c.args.content)) i.used c.args.kind c.args.size a.result v.0 c.bytes_mut.ensures.value a.auto.segment (v.2 begun) e.used e.added e.content e.below c.args.self.now c.self.view_is

pub returns-clause-added : goal.returns-clause-added
returns-clause-added c =
    let i = c.self.inside in let v = c.self.invariant in let a = c.append_with-self-inside in let e = a.ensures in
    let begun : IsSome i.group = subst (λ h. IsSome h.group) (sym c.self.view_is) c.requires.begun in
    changed i.piece i.group c.bytes_mut.result.now a.new.segment (padded (c.args.size - 8) (bytes_of c.args.content)) i.used c.args.kind c.args.size a.result v.0 c.bytes_mut.ensures.value a.auto.segment (v.2 begun) e.used e.added e.content e.below c.args.self.now c.self.view_is

pub returns-clause-inside : goal.returns-clause-inside
returns-clause-inside c =
    let i = c.self.inside in let v = c.self.invariant in let a = c.append_with-self-inside in let e = a.ensures in
    let begun : IsSome i.group = subst (λ h. IsSome h.group) (sym c.self.view_is) c.requires.begun in
    let grown = returns-clause-live c in let below = live-below i.piece.bytes 0 i.used (objects i.piece.bytes i.used) (v.2 begun).objects in
    let was : live_in (Some c.args.self.now) ≤ c.args.self.now.used = subst (λ h. live_in (Some h) ≤ h.used) c.self.view_is (omega (arith, below)) in
    omega (arith, grown, was, c.requires.fits)
