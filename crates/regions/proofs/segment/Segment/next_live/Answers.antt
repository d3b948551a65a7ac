use Rattle.std.proofs.Common.{◌≡◌, ◌<◌, ◌≤◌, inl, inr, sym, ap, ◌∙◌, subst, arith}
use Rattle.std.proofs.lemmas.Bool.Decides.{leb_tells}
use Rattle.object_log.specs.Objects.{Object, objects, descriptor_at, IsSegment, StandsAt}
use Rattle.std.specs.Prelude.{Some, IsSome}
use Rattle.regions.specs.Contents.{starts_in}
use Rattle.regions.proofs.Objects.{found-any, first-start}
use Rattle.regions.proofs.Written.{IsThere}
use Rattle.regions.proofs.Walked.{there-at, stands-there, some-kind, step, live-there, next-starts, none-between, counted, none-counted, passed}
use Rattle.regions.proofs.segment.Segment.next_live.Goals as goal

pub read_descriptor-found-requires : goal.read_descriptor-found-requires
read_descriptor-found-requires c =
    let h = c.args.self.now in let at = c.loop-at.at in
    let s : IsSegment h.piece.bytes h.used = subst (λ k. IsSegment k.piece.bytes k.used) c.self.view_is (c.self.invariant.2 (subst (λ k. IsSome k.group) (sym c.self.view_is) c.requires.begun)) in
    let low : at < h.used = subst (λ k. at < k.used) c.self.view_is c.loop-at-test.true in
    let t = there-at h.group h.piece.bytes h.used at s low c.loop-at.invariant.1 in
    let is : c.bytes-bytes.result.now ≡ h.piece.bytes = c.bytes-bytes.ensures ∙ ap (λ k. k.piece.bytes) c.self.view_is in
    (h.used, subst (λ b. IsSegment b h.used) (sym is) s, inl (subst (λ b. StandsAt at (objects b h.used)) (sym is) (found-any (λ (o : Object). o.at ≡ at) at (objects h.piece.bytes h.used) t.it t.is-it (t.found).place)))

-- an object stands where a descriptor was read
record Known (c : goal.Then-is_live) : Type 0 where
  pub there : IsThere c.args.self.now.piece.bytes c.args.self.now.used c.loop-at.at
  pub is-read : c.read_descriptor-found.result ≡ descriptor_at c.args.self.now.piece.bytes c.loop-at.at

known : (c : goal.Then-is_live) → Known c
known c =
    let i = c.self.inside in let h = c.args.self.now in let at = c.loop-at.at in
    let t = stands-there i.piece i.used i.group h at c.self.view_is c.self.invariant.2 c.requires.begun c.loop-at-test.true c.loop-at.invariant.1 in let d = c.read_descriptor-found.result in
    let d-is = c.read_descriptor-found.ensures.read ∙ ap (λ b. descriptor_at b at) (c.bytes-bytes.ensures ∙ ap (λ k. k.piece.bytes) c.self.view_is) in
    record { there = t; is-read = d-is }

pub returns-then-is_live-clause-found : goal.returns-then-is_live-clause-found
returns-then-is_live-clause-found c =
    let h = c.args.self.now in let at = c.loop-at.at in let k = known c in
    live-there h.group h.piece.bytes h.used at k.there c.read_descriptor-found.result k.is-read (sym c.is_live.ensures ∙ c.if-is_live.true)

pub returns-then-is_live-clause-size : goal.returns-then-is_live-clause-size
returns-then-is_live-clause-size c =
    let h = c.args.self.now in let at = c.loop-at.at in let k = known c in
    let is : c.bytes-bytes.result.now ≡ h.piece.bytes = c.bytes-bytes.ensures ∙ ap (λ k. k.piece.bytes) c.self.view_is in
    let stands : StandsAt at (objects c.bytes-bytes.result.now h.used) = subst (λ b. StandsAt at (objects b h.used)) (sym is) (found-any (λ (o : Object). o.at ≡ at) at (objects h.piece.bytes h.used) k.there.it k.there.is-it (k.there.found).place) in
    (some-kind h.group h.piece.bytes h.used at k.there c.read_descriptor-found.result k.is-read, (c.read_descriptor-found.ensures.fits h.used (subst (λ b. IsSegment b h.used) (sym is) k.there.segment) stands).0)

pub returns-then-is_live-clause-within : goal.returns-then-is_live-clause-within
returns-then-is_live-clause-within c =
    let h = c.args.self.now in let at = c.loop-at.at in let k = known c in
    (step h.group h.piece.bytes h.used at k.there c.read_descriptor-found.result k.is-read).1

pub returns-then-is_live-clause-inside : goal.returns-then-is_live-clause-inside
returns-then-is_live-clause-inside c =
    let h = c.args.self.now in let at = c.loop-at.at in let k = known c in
    let w = step h.group h.piece.bytes h.used at k.there c.read_descriptor-found.result k.is-read in omega (arith, w.1, w.2)

pub returns-then-is_live-clause-next : goal.returns-then-is_live-clause-next
returns-then-is_live-clause-next c =
    let h = c.args.self.now in let at = c.loop-at.at in let k = known c in
    next-starts h.group h.piece.bytes h.used at k.there c.read_descriptor-found.result k.is-read

pub returns-then-is_live-clause-between : goal.returns-then-is_live-clause-between
returns-then-is_live-clause-between c =
    let h = c.args.self.now in let at = c.loop-at.at in let k = known c in
    none-between h.group h.piece.bytes h.used at k.there c.read_descriptor-found.result k.is-read

pub overflow_add-at : goal.overflow_add-at
overflow_add-at c =
    let i = c.self.inside in let h = c.args.self.now in let at = c.loop-at.at in
    let t = stands-there i.piece i.used i.group h at c.self.view_is c.self.invariant.2 c.requires.begun c.loop-at-test.true c.loop-at.invariant.1 in let d = c.read_descriptor-found.result in
    let d-is = c.read_descriptor-found.ensures.read ∙ ap (λ b. descriptor_at b at) (c.bytes-bytes.ensures ∙ ap (λ k. k.piece.bytes) c.self.view_is) in
    let w = step h.group h.piece.bytes h.used at t d d-is in record { fits = omega (arith, w.1, w.2) }

pub loop-at-smaller : goal.loop-at-smaller
loop-at-smaller c =
    let i = c.self.inside in let h = c.args.self.now in let at = c.loop-at.at in
    let t = stands-there i.piece i.used i.group h at c.self.view_is c.self.invariant.2 c.requires.begun c.loop-at-test.true c.loop-at.invariant.1 in let d = c.read_descriptor-found.result in
    let d-is = c.read_descriptor-found.ensures.read ∙ ap (λ b. descriptor_at b at) (c.bytes-bytes.ensures ∙ ap (λ k. k.piece.bytes) c.self.view_is) in
    let w = step h.group h.piece.bytes h.used at t d d-is in omega (arith, w.0, c.loop-at-test.true)

pub loop-at-preserved : goal.loop-at-preserved
loop-at-preserved c =
    let i = c.self.inside in let h = c.args.self.now in let at = c.loop-at.at in
    let t = stands-there i.piece i.used i.group h at c.self.view_is c.self.invariant.2 c.requires.begun c.loop-at-test.true c.loop-at.invariant.1 in let d = c.read_descriptor-found.result in
    let d-is = c.read_descriptor-found.ensures.read ∙ ap (λ b. descriptor_at b at) (c.bytes-bytes.ensures ∙ ap (λ k. k.piece.bytes) c.self.view_is) in
    let w = step h.group h.piece.bytes h.used at t d d-is in let before = c.loop-at.invariant.0 in
    (omega (arith, before), next-starts h.group h.piece.bytes h.used at t d d-is, passed h.group h.piece.bytes h.used at t d d-is c.args.from (sym c.is_live.ensures ∙ c.if-is_live.false) c.loop-at.invariant.2)

pub returns-then-is_live-clause-counted : goal.returns-then-is_live-clause-counted
returns-then-is_live-clause-counted c =
    let h = c.args.self.now in let at = c.loop-at.at in let k = known c in
    counted h.group h.piece.bytes h.used at k.there c.read_descriptor-found.result k.is-read (sym c.is_live.ensures ∙ c.if-is_live.true)

pub returns-clause-dead : goal.returns-clause-dead
returns-clause-dead c = λ _ before.
    let h = c.args.self.now in let at = c.loop-at.at in
    let s : IsSegment h.piece.bytes h.used = subst (λ k. IsSegment k.piece.bytes k.used) c.self.view_is (c.self.invariant.2 (subst (λ k. IsSome k.group) (sym c.self.view_is) c.requires.begun)) in
    let high : h.used ≤ at = subst (λ k. k.used ≤ at) c.self.view_is c.loop-at-test.false in
    none-counted h.group h.piece.bytes 0 h.used (objects h.piece.bytes h.used) s.objects (λ b low inside.
    elim (leb_tells c.args.from b) [
      | inl up ↦ c.loop-at.invariant.2 b up.1 (omega (arith, high, inside))
      | inr under ↦ before b low under.1
    ])

pub loop-at-init : goal.loop-at-init
loop-at-init c =
    let h = c.args.self.now in
    let s : IsSegment h.piece.bytes h.used = subst (λ k. IsSegment k.piece.bytes k.used) c.self.view_is (c.self.invariant.2 (subst (λ k. IsSome k.group) (sym c.self.view_is) c.requires.begun)) in (
      omega arith,
      elim c.requires.start [
        | inl first ↦ subst (starts_in (Some h)) (sym first) (first-start h.group h.piece.bytes 0 h.used (objects h.piece.bytes h.used) s.objects)
        | inr start ↦ start
      ],
      λ a low high. absurd (omega (arith, low, high)),
    )
