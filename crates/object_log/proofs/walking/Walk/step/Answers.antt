use Rattle.std.proofs.Common.{◌≡◌, ℕ, List, [], ◌^◌, ◌+◌, ◌-◌, ◌<◌, ◌∷◌, refl, sym, ap, ◌∙◌, subst, arith}
use Rattle.object_log.specs.Objects.{object_at, objects_from, AreObjects, offsets}
use Rattle.object_log.proofs.Reading.{objects-step}
use Rattle.object_log.proofs.walking.Walk.step.Goals as goal

-- behind the last object no offset is left
ends : (bytes : List ℕ) (at used : ℕ) → at ≡ used → offsets (objects_from (used - at) bytes at used) ≡ []
ends bytes at used ended = let zero : used - at ≡ 0 = omega (arith, ended) in ap (λ n. offsets (objects_from n bytes at used)) zero

pub descriptor_in-requires : goal.descriptor_in-requires
descriptor_in-requires c =
    let w = c.self.inside in let i = c.self.invariant in
    let object = λ (ended : w.at ≡ w.used). c.requires (sym c.self.view_is ∙ ends w.segment.now w.at w.used ended) in
    let s = objects-step w.segment.now w.at w.used (objects_from (w.used - w.at) w.segment.now w.at w.used) refl i.2 object in
    omega (arith, s.2, i.0, i.1)

pub overflow_add-self : goal.overflow_add-self
overflow_add-self c =
    let w = c.self.inside in let i = c.self.invariant in
    let object = λ (ended : w.at ≡ w.used). c.requires (sym c.self.view_is ∙ ends w.segment.now w.at w.used ended) in
    let s = objects-step w.segment.now w.at w.used (objects_from (w.used - w.at) w.segment.now w.at w.used) refl i.2 object in
    let size : c.descriptor_in.result.size ≡ (object_at w.segment.now w.at).size = ap (λ d. d.size) c.descriptor_in.ensures in
    let below : w.at + c.descriptor_in.result.size < 2 ^ 32 = omega (arith, s.3, i.1, size) in
    record { fits = below }

pub invariant_of-self : goal.invariant_of-self
invariant_of-self c =
    let w = c.self.inside in let i = c.self.invariant in
    let object = λ (ended : w.at ≡ w.used). c.requires (sym c.self.view_is ∙ ends w.segment.now w.at w.used ended) in
    let s = objects-step w.segment.now w.at w.used (objects_from (w.used - w.at) w.segment.now w.at w.used) refl i.2 object in
    let size : c.descriptor_in.result.size ≡ (object_at w.segment.now w.at).size = ap (λ d. d.size) c.descriptor_in.ensures in
    (i.0, i.1, subst (λ n. AreObjects w.segment.now (w.at + n) w.used (objects_from (w.used - (w.at + n)) w.segment.now (w.at + n) w.used)) (sym size) s.1)

pub returns : goal.returns
returns c =
    let w = c.self.inside in let i = c.self.invariant in
    let object = λ (ended : w.at ≡ w.used). c.requires (sym c.self.view_is ∙ ends w.segment.now w.at w.used ended) in
    let s = objects-step w.segment.now w.at w.used (objects_from (w.used - w.at) w.segment.now w.at w.used) refl i.2 object in
    let size : c.descriptor_in.result.size ≡ (object_at w.segment.now w.at).size = ap (λ d. d.size) c.descriptor_in.ensures in
    sym c.self.view_is ∙ ap offsets s.0 ∙ ap (λ n. w.at ∷ offsets (objects_from (w.used - (w.at + n)) w.segment.now (w.at + n) w.used)) (sym size)
